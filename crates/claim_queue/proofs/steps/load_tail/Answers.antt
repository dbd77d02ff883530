use Rattle.claim_queue.proofs.Reading.{found_tail}
use Rattle.claim_queue.proofs.steps.load_tail.Goals as goal

pub returns-clause-tail : goal.returns-clause-tail
returns-clause-tail g c = found_tail _ _ _ c.load.ensures.found
