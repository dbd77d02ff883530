use Rattle.boot_script.proofs.EventScripts.Faults.{text_known}
use Rattle.boot_script.proofs.laws.memory_is_no_fault.Goals as goal

pub returns : goal.returns
returns c = text_known
