use Rattle.batch_queue.proofs.Looking.{found_free}
use Rattle.batch_queue.proofs.walk.load_free.Goals as goal

pub returns-clause-free : goal.returns-clause-free
returns-clause-free g c = found_free _ _ _ c.load.ensures.found
