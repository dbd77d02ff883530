use Rattle.boot_script.proofs.BootScripts.Texts.{plan_ok, plan_again}
use Rattle.boot_script.proofs.spelling_laws.whole_text.Goals as goal

pub returns-clause-spelled : goal.returns-clause-spelled
returns-clause-spelled c = plan_ok

pub returns-clause-read : goal.returns-clause-read
returns-clause-read c = plan_again
