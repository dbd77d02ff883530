use Rattle.quaject_core.proofs.Common.{ap, ◌∙◌, arith, claim, queue}
use Rattle.quaject_core.proofs.Stored.Parts.{queue_changes}
use Rattle.quaject_core.proofs.store.Store.claim_items.Goals as goal

pub returns : goal.returns
returns c = queue_changes c.args.self.now c.args.number c.from-number.result (λ q. claim q.capacity c.args.call c.args.items.now q) c.index_mut-stored.result.now c.claim.new.self _ c.claim.result
    (c.from-number.ensures ∙ c.number.ensures.value) (omega (arith, c.args.self.now.queues.ok)) c.index_mut-stored.ensures.value
    (ap (λ n. claim n c.args.call c.args.items.now (queue c.index_mut-stored.result.now)) c.capacity-longest.ensures) c.claim.ensures
