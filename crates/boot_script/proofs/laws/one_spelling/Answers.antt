use Rattle.boot_script.proofs.EventScripts.Spelled.{line_ok}
use Rattle.boot_script.proofs.laws.one_spelling.Goals as goal

pub returns : goal.returns
returns c = line_ok
