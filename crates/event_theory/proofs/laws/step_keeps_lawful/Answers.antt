use Rattle.event_theory.proofs.Keeping.Steps.{step_law}
use Rattle.event_theory.proofs.laws.step_keeps_lawful.Goals as goal

pub returns : goal.returns
returns c = step_law
