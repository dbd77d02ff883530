use Rattle.thread_table.proofs.Common.{rules}
use Rattle.thread_table.proofs.Events.Allowed.{tries_it}
use Rattle.thread_table.proofs.Events.Claims.{may_claim}
use Rattle.thread_table.proofs.Events.Steps.{did_at, found_at, found_head}
use Rattle.thread_table.proofs.Hands.OnlyLoads.{stood}
use Rattle.thread_table.proofs.steps.exchange_head.Goals as goal

pub compare_exchange-requires : goal.compare_exchange-requires
compare_exchange-requires g c = let mine = c.requires.mine in (search rules, search rules, tries_it mine.0 (may_claim _ _ mine.1 _ _ _ c.requires.queue.2 c.requires.held.0 c.requires.held.1 c.requires.room) _ _ _ _ c.requires.event.0 c.requires.event.1 c.head_word.ensures.0)

pub returns-clause-hit : goal.returns-clause-hit
returns-clause-hit g c is = did_at c.head_word.ensures.0 (c.compare_exchange.ensures.2.1.0 is)

pub returns-clause-miss : goal.returns-clause-miss
returns-clause-miss g c ne = let f = found_at c.head_word.ensures.0 (c.compare_exchange.ensures.2.1.1 ne) in (f, found_head _ _ _ _ c.requires.queue.2 f)

pub returns-clause-stands : goal.returns-clause-stands
returns-clause-stands g c = stood _ _ _ _ c.requires.event.0 (search rules) c.compare_exchange.ensures.2.2
