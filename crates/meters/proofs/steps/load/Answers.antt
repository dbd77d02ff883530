use Rattle.meters.proofs.Common.{rules}
use Rattle.meters.proofs.Stepping.{looks}
use Rattle.meters.proofs.steps.load.Goals as goal

pub load-requires : goal.load-requires
load-requires c = (search rules, search rules, looks _ _ _ _ c.requires.live _)
