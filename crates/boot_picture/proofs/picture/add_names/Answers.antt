use Rattle.boot_picture.proofs.Clears.{ground_more}
use Rattle.boot_picture.proofs.picture.add_names.Goals as goal

pub loop-processor-preserved : goal.loop-processor-preserved
loop-processor-preserved c = ground_more c.args.frame.now.width c.args.frame.now.height c.args.canvas.now c.loop-processor.canvas c.label.new.self _ c.loop-processor.invariant c.in_ok-label.ensures tt
