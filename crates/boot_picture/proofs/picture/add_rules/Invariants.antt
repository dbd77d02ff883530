use Rattle.boot_picture.specs.Clear.{DrawsGround}
use Rattle.boot_picture.proofs.picture.add_rules.Given as goal

-- no box was drawn so far
abbrev pub invariant-loop-number : goal.invariant-loop-number
invariant-loop-number l = DrawsGround l.frame.width l.frame.height l.initial.canvas l.canvas
