use Rattle.std.proofs.Common.{◌∙◌, arith}
use Rattle.quaject_core.proofs.Stored.Elements.{stored_notified}
use Rattle.quaject_core.proofs.elements.StoredElements.notify_wait.Goals as goal

pub returns-clause-change : goal.returns-clause-change
returns-clause-change c =
    stored_notified c.args.self.now c.args.wait c.from-wait.result (c.from-wait.ensures ∙ c.number.ensures.value) (omega (arith, c.from-wait.ensures, c.number.ensures.within))
