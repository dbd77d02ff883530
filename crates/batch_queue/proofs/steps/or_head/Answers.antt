use Rattle.batch_queue.proofs.Common.{arith}
use Rattle.batch_queue.proofs.Under.{shuts_as}
use Rattle.batch_queue.proofs.steps.or_head.Goals as goal

pub fetch_or-requires : goal.fetch_or-requires
fetch_or-requires g c = let q = c.requires.queue in (q.0, omega arith, shuts_as g.C.Protocol.allows _ _ _ _ c.requires.live)
