use Rattle.boot_report.proofs.Fitting.{steps_fit}
use Rattle.boot_report.proofs.laws.threads_fit.Goals as goal

pub returns : goal.returns
returns c = steps_fit
