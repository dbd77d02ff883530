use Rattle.batch_queue.proofs.Common.{arith}
use Rattle.batch_queue.proofs.Under.{frees_as}
use Rattle.batch_queue.proofs.steps.exchange_free.Goals as goal

pub compare_exchange-requires : goal.compare_exchange-requires
compare_exchange-requires g c = let q = c.requires.queue in (q.0, omega arith, frees_as g.C.Protocol.allows _ _ _ _ _ _ c.requires.back.1 c.requires.back.0 c.requires.live)
