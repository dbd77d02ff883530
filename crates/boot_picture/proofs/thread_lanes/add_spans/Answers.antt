use Rattle.boot_picture.proofs.Clears.{below_then}
use Rattle.boot_picture.proofs.thread_lanes.add_spans.Goals as goal

pub loop-span-preserved : goal.loop-span-preserved
loop-span-preserved c = below_then c.args.frame.now.threads c.after-y.result c.args.canvas.now c.loop-span.canvas c.add_thread_place.new.canvas c.after-y.ensures c.loop-span.invariant c.in_ok-add_thread_place.ensures
