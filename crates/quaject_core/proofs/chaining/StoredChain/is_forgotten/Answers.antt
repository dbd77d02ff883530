use Rattle.quaject_core.proofs.Common.{sym, ◌∙◌, ap, not, ◌&&◌, chain}
use Rattle.quaject_core.proofs.Stored.Owners.{forgotten_by}
use Rattle.quaject_core.proofs.chaining.StoredChain.is_forgotten.Goals as goal

pub returns-else-first_are_raised : goal.returns-else-first_are_raised
returns-else-first_are_raised c =
    c.if-first_are_raised.false
    ∙ sym (forgotten_by (chain c.args.self.now) c.in-Some.call (sym c.first_call.ensures ∙ c.in-Some.is)
    ∙ ap (λ b. b && not ((chain c.args.self.now).owing c.in-Some.call)) (sym c.first_are_raised.ensures ∙ c.if-first_are_raised.false))
