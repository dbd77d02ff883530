use Rattle.thread_table.proofs.Common.{rules}
use Rattle.thread_table.proofs.Hands.OnlyLoads.{looks, stood}
use Rattle.thread_table.proofs.steps.load.Goals as goal

pub load-requires : goal.load-requires
load-requires g c = (search rules, search rules, looks _ _ _ _ _ _ c.requires.call c.requires.live)

pub returns : goal.returns
returns g c = (search rules, search rules, c.load.ensures.2.1, stood _ _ _ _ c.requires.call (search rules) c.load.ensures.2.2)
