use Rattle.boot_picture.proofs.Common.{◌-◌, DrawsBelow}
use Rattle.boot_picture.proofs.thread_lanes.add_arrows.Given as goal

-- no part so far is more than 5 above the lanes of the threads
abbrev pub invariant-loop-arrow : goal.invariant-loop-arrow
invariant-loop-arrow l = DrawsBelow (l.frame.threads - 5) l.initial.canvas l.canvas
