use Rattle.boot_picture.proofs.Clears.{text_more}
use Rattle.boot_picture.proofs.thread_lanes.add_thread_names.Goals as goal

pub loop-number-preserved : goal.loop-number-preserved
loop-number-preserved c = text_more c.args.canvas.now c.loop-number.canvas c.words.new.self _ c.loop-number.invariant c.in_ok-words.ensures (λ top bottom. tt)
