use Rattle.processor.proofs.Fitted.{fits, few_steps}
use Rattle.processor.proofs.laws.steps_fit.Goals as goal

pub returns-clause-there : goal.returns-clause-there
returns-clause-there c = fits

pub returns-clause-few : goal.returns-clause-few
returns-clause-few c = few_steps
