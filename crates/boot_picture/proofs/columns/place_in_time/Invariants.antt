use Rattle.boot_picture.proofs.Common.{◌≡◌, take, All, IsAtTime, IsWide, blocks_of}
use Rattle.boot_picture.proofs.columns.place_in_time.Given as goal

-- the blocks so far have places, by the time
abbrev pub invariant-loop-ordered : goal.invariant-loop-ordered
invariant-loop-ordered l = record { blocks : blocks_of l.all.items ≡ take l.ordered-index l.order; wide : All IsWide l.all.items; times : All (IsAtTime l.tracks l.scale) l.all.items }
