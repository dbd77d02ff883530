use Rattle.quaject_core.proofs.Common.{join_queue, queue}
use Rattle.quaject_core.proofs.Stored.Parts.{over_more, over_all}
use Rattle.quaject_core.proofs.store.join_queues.Goals as goal

pub loop-queue-preserved : goal.loop-queue-preserved
loop-queue-preserved c = over_more queue (join_queue c.args.call c.args.other) c.args.queues.now c.loop-queue.queue-items c.loop-queue.queue-index c.queue-item.result c.join.new.self
    c.loop-queue-test.true c.loop-queue.auto.queue-items c.loop-queue.invariant c.join.ensures

pub returns : goal.returns
returns c = over_all queue (join_queue c.args.call c.args.other) c.args.queues.now c.loop-queue.queue-items c.loop-queue.queue-index c.loop-queue-test.false c.loop-queue.invariant
