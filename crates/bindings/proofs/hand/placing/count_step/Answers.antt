use Rattle.std.proofs.Common.{rules, inr, refl}
use Rattle.bindings.proofs.hand.placing.count_step.Goals as goal

pub returns-in-Ok : goal.returns-in-Ok
returns-in-Ok c = inr (inr (refl, search rules, search rules, search rules))
