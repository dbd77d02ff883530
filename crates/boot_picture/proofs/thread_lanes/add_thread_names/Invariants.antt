use Rattle.boot_picture.specs.Clear.{DrawsTexts}
use Rattle.boot_picture.proofs.thread_lanes.add_thread_names.Given as goal

-- texts were drawn so far
abbrev pub invariant-loop-number : goal.invariant-loop-number
invariant-loop-number l = DrawsTexts l.initial.canvas l.canvas
