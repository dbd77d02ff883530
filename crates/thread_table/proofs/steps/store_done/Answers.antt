use Rattle.thread_table.proofs.Common.{rules}
use Rattle.thread_table.proofs.Events.Allowed.{stores_it}
use Rattle.thread_table.proofs.Events.Threads.{may_count}
use Rattle.thread_table.proofs.Events.Steps.{did_at}
use Rattle.thread_table.proofs.Hands.OnlyLoads.{stood}
use Rattle.thread_table.proofs.steps.store_done.Goals as goal

pub store-requires : goal.store-requires
store-requires g c = (search rules, search rules, stores_it c.requires.mine.0 (may_count _ _ c.requires.mine.1 _ _ c.requires.counted.0 c.requires.counted.1) _ _ _ _ c.requires.event.0 c.requires.event.1 c.done_word.ensures.0)

pub returns-clause-effect : goal.returns-clause-effect
returns-clause-effect g c = (c.store.ensures.2.1.0, did_at c.done_word.ensures.0 c.store.ensures.2.1.1)

pub returns-clause-stands : goal.returns-clause-stands
returns-clause-stands g c = stood _ _ _ _ c.requires.event.0 (search rules) c.store.ensures.2.2
