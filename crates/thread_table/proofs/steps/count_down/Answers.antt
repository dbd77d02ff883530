use Rattle.thread_table.proofs.Common.{rules}
use Rattle.thread_table.proofs.Hands.CountSteps.{downs}
use Rattle.thread_table.proofs.Hands.OnlyLoads.{stood}
use Rattle.thread_table.proofs.steps.count_down.Goals as goal

pub fetch_sub-requires : goal.fetch_sub-requires
fetch_sub-requires g c = (search rules, search rules, downs _ _ _ _ _ c.requires.call c.requires.live.0 c.requires.live.1)

pub returns-clause-stands : goal.returns-clause-stands
returns-clause-stands g c = stood _ _ _ _ c.requires.call (search rules) c.fetch_sub.ensures.2.2
