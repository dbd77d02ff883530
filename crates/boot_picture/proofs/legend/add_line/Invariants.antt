use Rattle.boot_picture.specs.Clear.{DrawsBelow}
use Rattle.boot_picture.proofs.legend.add_line.Given as goal

-- no part so far is above the line
abbrev pub invariant-loop-x : goal.invariant-loop-x
invariant-loop-x l = DrawsBelow l.y l.initial.canvas l.canvas
