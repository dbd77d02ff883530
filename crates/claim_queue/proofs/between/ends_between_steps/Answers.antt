use Rattle.claim_queue.proofs.Betweens.{shows_ends}
use Rattle.claim_queue.proofs.between.ends_between_steps.Goals as goal

pub returns : goal.returns
returns g c = λ key state h. shows_ends key state h.rule
