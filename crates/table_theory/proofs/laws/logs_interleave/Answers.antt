use Rattle.table_theory.proofs.Interleaving.{interleaved}
use Rattle.table_theory.proofs.laws.logs_interleave.Goals as goal

pub returns : goal.returns
returns c = interleaved
