use Rattle.boot_log.proofs.Passed.{passed_once}
use Rattle.boot_log.proofs.laws.lines_pass_once.Goals as goal

pub returns : goal.returns
returns c = passed_once
