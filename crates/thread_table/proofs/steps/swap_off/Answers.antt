use Rattle.thread_table.proofs.Common.{rules}
use Rattle.thread_table.proofs.Events.Allowed.{makes_it}
use Rattle.thread_table.proofs.Events.OnProcessors.{may_take_off}
use Rattle.thread_table.proofs.Events.Steps.{did_at}
use Rattle.thread_table.proofs.Hands.OnlyLoads.{stood}
use Rattle.thread_table.proofs.steps.swap_off.Goals as goal

pub swap-requires : goal.swap-requires
swap-requires g c = (search rules, search rules, makes_it c.requires.mine.0 (may_take_off _ _ c.requires.mine.1 _ _ c.requires.there.0 c.requires.there.1 c.requires.there.2) _ _ _ _ c.requires.event.0 c.requires.event.1 c.processor_word.ensures.0)

pub returns-clause-effect : goal.returns-clause-effect
returns-clause-effect g c = (c.swap.result, did_at c.processor_word.ensures.0 c.swap.ensures.2.1)

pub returns-clause-stands : goal.returns-clause-stands
returns-clause-stands g c = stood _ _ _ _ c.requires.event.0 (search rules) c.swap.ensures.2.2
