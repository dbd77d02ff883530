use Rattle.boot_picture.specs.Clear.{DrawsGround}
use Rattle.boot_picture.proofs.marks.add_times.Given as goal

-- no box was drawn so far
abbrev pub invariant-loop-number : goal.invariant-loop-number
invariant-loop-number l = DrawsGround l.frame.width l.frame.height l.initial.canvas l.canvas
