use Rattle.boot_picture.proofs.Common.{◌≡◌, None, IfSome, AreUsed, IsLeast, IsNextIn}
use Rattle.boot_picture.proofs.order.earliest.Given as goal

-- what was found is a next block, or no processor so far has one
abbrev pub invariant-loop-processor : goal.invariant-loop-processor
invariant-loop-processor l = record { found : IfSome l.found (IsNextIn l.tracks l.nexts); none : l.found ≡ None → AreUsed l.tracks l.nexts l.processor; least : IfSome l.found (IsLeast l.tracks l.nexts l.processor) }
