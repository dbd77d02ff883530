use Rattle.claim_queue.proofs.Reading.{found_head}
use Rattle.claim_queue.proofs.steps.load_head.Goals as goal

pub returns-clause-is_open : goal.returns-clause-is_open
returns-clause-is_open g c = λ bounded. (found_head _ _ _ c.load.ensures.found bounded).0
