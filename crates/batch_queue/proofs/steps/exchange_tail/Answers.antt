use Rattle.batch_queue.proofs.Common.{arith}
use Rattle.batch_queue.proofs.Under.{takes_as}
use Rattle.batch_queue.proofs.steps.exchange_tail.Goals as goal

pub compare_exchange-requires : goal.compare_exchange-requires
compare_exchange-requires g c = let q = c.requires.queue in (q.0, omega arith, takes_as g.C.Protocol.allows _ _ _ _ _ _ g.C.Protocol.takes c.requires.up.1 c.requires.up.0 c.requires.live c.requires.bare.1 c.requires.bare.0)
