use Rattle.boot_picture.specs.Clear.{DrawsAbove}
use Rattle.boot_picture.proofs.marks.add_alarms.Given as goal

-- all parts so far are above the lanes of the processors
abbrev pub invariant-loop-placed : goal.invariant-loop-placed
invariant-loop-placed l = DrawsAbove l.frame.processors l.initial.canvas l.canvas
