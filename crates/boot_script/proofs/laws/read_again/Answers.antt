use Rattle.boot_script.proofs.EventScripts.Again.{line_again}
use Rattle.boot_script.proofs.laws.read_again.Goals as goal

pub returns : goal.returns
returns c = line_again
