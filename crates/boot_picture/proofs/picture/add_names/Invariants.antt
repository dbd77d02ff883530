use Rattle.boot_picture.specs.Clear.{DrawsGround}
use Rattle.boot_picture.proofs.picture.add_names.Given as goal

-- no box was drawn so far
abbrev pub invariant-loop-processor : goal.invariant-loop-processor
invariant-loop-processor l = DrawsGround l.frame.width l.frame.height l.initial.canvas l.canvas
