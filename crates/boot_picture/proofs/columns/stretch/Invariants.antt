use Rattle.boot_picture.proofs.Common.{◌≡◌, ◌<◌, length, All, AllPairs, IsBefore, IsWide, blocks_of}
use Rattle.boot_picture.proofs.Placing.{AreNexts}
use Rattle.boot_picture.proofs.columns.stretch.Given as goal

-- the blocks are the same, and none is less wide; `nexts` has where the next block of each processor begins
abbrev pub invariant-loop-number : goal.invariant-loop-number
invariant-loop-number l = record { as_many : length l.nexts.items ≡ length l.tracks; processors : All (λ placed. placed.ordered.processor < length l.tracks) l.all; blocks : blocks_of l.all ≡ blocks_of l.fn.all; wide : All IsWide l.all; turns : AllPairs IsBefore l.all; nexts : AreNexts l.nexts.items l.number l.all }
