use Rattle.processor.proofs.Summing.{accounts_add}
use Rattle.processor.proofs.laws.accounts_add.Goals as goal

pub returns : goal.returns
returns c = accounts_add
