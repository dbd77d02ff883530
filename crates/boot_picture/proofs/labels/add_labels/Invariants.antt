use Rattle.boot_picture.specs.Clear.{DrawsTexts}
use Rattle.boot_picture.proofs.labels.add_labels.Given as goal

-- texts were drawn so far
abbrev pub invariant-loop-placed : goal.invariant-loop-placed
invariant-loop-placed l = DrawsTexts l.initial.canvas l.canvas
