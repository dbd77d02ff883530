use Rattle.quaject_core.proofs.Common.{ap, ◌∙◌, arith, take_first, queue}
use Rattle.quaject_core.proofs.Stored.Parts.{queue_changes}
use Rattle.quaject_core.proofs.store.Store.take_items.Goals as goal

pub returns : goal.returns
returns c = queue_changes c.args.self.now c.args.number c.from-number.result (λ q. take_first q.capacity c.args.count q) c.index_mut-stored.result.now c.take.new.self _ c.take.result
    (c.from-number.ensures ∙ c.number.ensures.value) (omega (arith, c.args.self.now.queues.ok)) c.index_mut-stored.ensures.value
    (ap (λ n. take_first n c.args.count (queue c.index_mut-stored.result.now)) c.capacity-longest.ensures) c.take.ensures
