use Rattle.claim_queue.proofs.Betweens.{shows_queue}
use Rattle.claim_queue.proofs.between.between_steps.Goals as goal

pub returns : goal.returns
returns g c = λ key state h. shows_queue key state h.rule
