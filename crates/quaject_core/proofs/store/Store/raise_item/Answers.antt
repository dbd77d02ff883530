use Rattle.quaject_core.proofs.Common.{refl, ◌∙◌, arith, raise}
use Rattle.quaject_core.proofs.Stored.Parts.{queue_changes}
use Rattle.quaject_core.proofs.store.Store.raise_item.Goals as goal

pub returns : goal.returns
returns c = queue_changes c.args.self.now c.args.number c.from-number.result (raise c.args.call c.args.run c.args.index) c.index_mut.result.now c.raise.new.self _ c.raise.result
    (c.from-number.ensures ∙ c.number.ensures.value) (omega (arith, c.args.self.now.queues.ok)) c.index_mut.ensures.value refl c.raise.ensures
