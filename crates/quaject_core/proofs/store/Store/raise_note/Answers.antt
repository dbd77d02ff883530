use Rattle.quaject_core.proofs.Common.{◌∙◌, arith, raise_note}
use Rattle.quaject_core.proofs.Stored.Parts.{chain_changes}
use Rattle.quaject_core.proofs.store.Store.raise_note.Goals as goal

pub returns : goal.returns
returns c = chain_changes c.args.self.now c.args.number c.from-number.result (raise_note c.args.call c.args.run c.args.index) c.index_mut.result.now c.raise.new.self c.raise.result
    (c.from-number.ensures ∙ c.number.ensures.value) (omega (arith, c.args.self.now.chains.ok)) c.index_mut.ensures.value c.raise.ensures
