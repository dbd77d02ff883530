use Rattle.boot_laws.proofs.Boots.Booting.{report_agrees}
use Rattle.boot_laws.proofs.reports_agree.Goals as goal

pub returns : goal.returns
returns c = report_agrees
