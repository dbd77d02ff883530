use Rattle.boot_picture.proofs.Common.{take, AreBoxesDrawn}
use Rattle.boot_picture.proofs.lanes.add_boxes.Given as goal

-- the boxes of the blocks so far are drawn
abbrev pub invariant-loop-number : goal.invariant-loop-number
invariant-loop-number l = AreBoxesDrawn l.tracks l.top (take l.number l.all) l.initial.canvas l.canvas
