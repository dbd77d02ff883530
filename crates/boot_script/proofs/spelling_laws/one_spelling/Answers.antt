use Rattle.boot_script.proofs.BootScripts.Spelled.{boot_line_ok}
use Rattle.boot_script.proofs.spelling_laws.one_spelling.Goals as goal

pub returns : goal.returns
returns c = boot_line_ok
