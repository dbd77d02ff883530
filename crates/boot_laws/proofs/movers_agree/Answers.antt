use Rattle.boot_laws.proofs.Queues.Chains.{mover_agrees}
use Rattle.boot_laws.proofs.movers_agree.Goals as goal

pub returns : goal.returns
returns c = λ plan logs done number p home m w came e. mover_agrees plan logs done w number p home m came e
