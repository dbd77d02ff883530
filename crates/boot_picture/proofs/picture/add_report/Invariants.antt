use Rattle.boot_picture.specs.Clear.{DrawsTexts}
use Rattle.boot_picture.proofs.picture.add_report.Given as goal

-- texts were drawn so far
abbrev pub invariant-loop-line : goal.invariant-loop-line
invariant-loop-line l = DrawsTexts l.initial.canvas l.canvas
