use Rattle.boot_script.proofs.BootScripts.Again.{boot_line_again}
use Rattle.boot_script.proofs.spelling_laws.read_again.Goals as goal

pub returns : goal.returns
returns c = boot_line_again
