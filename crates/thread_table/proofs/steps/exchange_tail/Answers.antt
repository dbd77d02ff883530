use Rattle.thread_table.proofs.Common.{rules}
use Rattle.thread_table.proofs.Events.Allowed.{tries_it}
use Rattle.thread_table.proofs.Events.Takes.{may_take}
use Rattle.thread_table.proofs.Events.Steps.{did_at, found_at, found_tail}
use Rattle.thread_table.proofs.Hands.OnlyLoads.{stood}
use Rattle.thread_table.proofs.steps.exchange_tail.Goals as goal

pub compare_exchange-requires : goal.compare_exchange-requires
compare_exchange-requires g c = let mine = c.requires.mine in (search rules, search rules, tries_it mine.0 (may_take _ _ mine.1 _ _ c.requires.raised.0 c.requires.queue.2 c.requires.raised.1 c.requires.raised.2) _ _ _ _ c.requires.event.0 c.requires.event.1 c.tail_word.ensures.0)

pub returns-clause-hit : goal.returns-clause-hit
returns-clause-hit g c is = did_at c.tail_word.ensures.0 (c.compare_exchange.ensures.2.1.0 is)

pub returns-clause-miss : goal.returns-clause-miss
returns-clause-miss g c ne = let f = found_at c.tail_word.ensures.0 (c.compare_exchange.ensures.2.1.1 ne) in (f, found_tail _ _ _ _ c.requires.queue.2 f)

pub returns-clause-stands : goal.returns-clause-stands
returns-clause-stands g c = stood _ _ _ _ c.requires.event.0 (search rules) c.compare_exchange.ensures.2.2
