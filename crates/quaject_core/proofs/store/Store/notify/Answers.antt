use Rattle.quaject_core.proofs.Common.{◌∙◌, arith, notify}
use Rattle.quaject_core.proofs.Stored.Parts.{chain_changes}
use Rattle.quaject_core.proofs.store.Store.notify.Goals as goal

pub returns-clause-change : goal.returns-clause-change
returns-clause-change c = chain_changes c.args.self.now c.args.number c.from-number.result (notify c.args.call) c.index_mut.result.now c.notify.new.self c.notify.result
    (c.from-number.ensures ∙ c.number.ensures.value) (omega (arith, c.args.self.now.chains.ok)) c.index_mut.ensures.value c.notify.ensures.change
