use Rattle.boot_picture.proofs.BoxLists.{boxes_more}
use Rattle.boot_picture.proofs.lanes.add_boxes.Goals as goal

pub loop-number-preserved : goal.loop-number-preserved
loop-number-preserved c = boxes_more c.args.tracks.now c.args.top c.args.all.now c.loop-number.number c.index-all-number.result c.args.canvas.now c.loop-number.canvas c.add_box.new.canvas c.loop-number-test.true c.index-all-number.is c.loop-number.invariant c.in_ok-add_box.ensures
