use Rattle.boot_log.proofs.Knowing.{known_lines}
use Rattle.boot_log.proofs.laws.lines_are_known.Goals as goal

pub returns : goal.returns
returns c = known_lines
