use Rattle.thread_table.proofs.Common.{rules}
use Rattle.thread_table.proofs.Hands.CountSteps.{ups}
use Rattle.thread_table.proofs.Hands.OnlyLoads.{stood}
use Rattle.thread_table.proofs.steps.count_up.Goals as goal

pub fetch_add-requires : goal.fetch_add-requires
fetch_add-requires g c = (search rules, search rules, ups _ _ _ _ _ c.requires.call c.requires.parts c.requires.live)

pub returns-clause-stands : goal.returns-clause-stands
returns-clause-stands g c = stood _ _ _ _ c.requires.call (search rules) c.fetch_add.ensures.2.2
