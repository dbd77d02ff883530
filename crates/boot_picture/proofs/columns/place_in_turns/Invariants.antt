use Rattle.boot_picture.proofs.Common.{◌≡◌, ◌≤◌, ◌+◌, ◌*◌, take, All, AllPairs, IsBefore, IsWide, blocks_of}
use Rattle.boot_picture.proofs.Placing.{IsLeftOf}
use Rattle.boot_picture.proofs.columns.place_in_turns.Given as goal

-- the blocks so far have places, and the next one begins at `left`, after them
abbrev pub invariant-loop-ordered : goal.invariant-loop-ordered
invariant-loop-ordered l = record { blocks : blocks_of l.all.items ≡ take l.ordered-index l.order; wide : All IsWide l.all.items; turns : AllPairs IsBefore l.all.items; before : All (IsLeftOf l.left) l.all.items; near : l.left ≤ 96 + 140 * l.ordered-index }
