use Rattle.boot_report.proofs.Fitting.{all_alarms}
use Rattle.boot_report.proofs.laws.alarms_are_all.Goals as goal

pub returns : goal.returns
returns c = all_alarms
