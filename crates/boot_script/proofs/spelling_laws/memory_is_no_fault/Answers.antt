use Rattle.boot_script.proofs.BootScripts.Faults.{text_plan_known}
use Rattle.boot_script.proofs.spelling_laws.memory_is_no_fault.Goals as goal

pub returns : goal.returns
returns c = text_plan_known
