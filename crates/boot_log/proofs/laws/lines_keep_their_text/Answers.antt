use Rattle.boot_log.proofs.Passed.{same_lines}
use Rattle.boot_log.proofs.laws.lines_keep_their_text.Goals as goal

pub returns : goal.returns
returns c = same_lines
