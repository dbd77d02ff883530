use Rattle.quaject_core.proofs.Common.{arith, take_ok, queue, after_take}
use Rattle.quaject_core.proofs.Stored.Queues.{taken_lawful, first_enough}
use Rattle.quaject_core.proofs.queueing.StoredQueue.take.Goals as goal

pub overflow_add-self : goal.overflow_add-self
overflow_add-self c =
    let h = take_ok c.args.longest c.args.count (queue c.args.self.now) (after_take c.args.count (queue c.args.self.now)) c.in_ok-check_take.ensures in
    omega (arith, first_enough c.args.self.now c.args.count h.3, c.args.self.now.places.ok, c.args.self.now.places.small)

pub invariant_of-self : goal.invariant_of-self
invariant_of-self c =
    let h = take_ok c.args.longest c.args.count (queue c.args.self.now) (after_take c.args.count (queue c.args.self.now)) c.in_ok-check_take.ensures in
    record { laid_out = c.args.self.now.laid_out; lawful = taken_lawful c.args.self.now c.args.count h.3 }
