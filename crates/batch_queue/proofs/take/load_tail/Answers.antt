use Rattle.batch_queue.proofs.Looking.{found_tail}
use Rattle.batch_queue.proofs.take.load_tail.Goals as goal

pub returns-clause-tail : goal.returns-clause-tail
returns-clause-tail g c = found_tail _ _ _ c.load.ensures.found
