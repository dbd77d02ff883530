use Rattle.quaject_core.proofs.Common.{◌∙◌, arith, take_note}
use Rattle.quaject_core.proofs.Stored.Parts.{chain_changes}
use Rattle.quaject_core.proofs.store.Store.take_note.Goals as goal

pub returns : goal.returns
returns c = chain_changes c.args.self.now c.args.number c.from-number.result (take_note c.args.call c.args.count) c.index_mut.result.now c.take.new.self c.take.result
    (c.from-number.ensures ∙ c.number.ensures.value) (omega (arith, c.args.self.now.chains.ok)) c.index_mut.ensures.value c.take.ensures
