use Rattle.boot_picture.proofs.Common.{◌≡◌, take, first_end, last_end}
use Rattle.boot_picture.proofs.columns.scale_of.Given as goal

-- when the first turn of the blocks so far ended, and the last one
abbrev pub invariant-loop-ordered : goal.invariant-loop-ordered
invariant-loop-ordered l = record { first : l.from ≡ first_end l.tracks (take l.ordered-index l.order); last : l.to ≡ last_end l.tracks (take l.ordered-index l.order) }
