use Rattle.proc_chain.proofs.Common.{suits, makes}
use Rattle.proc_chain.proofs.Betweens.{shows_chain}
use Rattle.proc_chain.proofs.between.between_steps.Goals as goal

pub returns : goal.returns
returns g c = λ key state rule. shows_chain (makes g.Q.Quaject.made_by) (suits g.Q.Quaject.fits) key state rule
