use Rattle.boot_picture.specs.Clear.{DrawsBelow}
use Rattle.boot_picture.proofs.thread_lanes.add_spans.Given as goal

-- no part so far is above the lanes of the threads
abbrev pub invariant-loop-span : goal.invariant-loop-span
invariant-loop-span l = DrawsBelow l.frame.threads l.initial.canvas l.canvas
