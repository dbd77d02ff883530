use Rattle.batch_queue.proofs.Common.{rules}
use Rattle.batch_queue.proofs.Under.{looks_as}
use Rattle.batch_queue.proofs.steps.load.Goals as goal

pub load-requires : goal.load-requires
load-requires g c = (search rules, search rules, looks_as g.C.Protocol.allows _ _ _ _ _ c.requires.live)
