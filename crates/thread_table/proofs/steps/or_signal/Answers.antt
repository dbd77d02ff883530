use Rattle.thread_table.proofs.Common.{rules}
use Rattle.thread_table.proofs.Events.Allowed.{makes_it}
use Rattle.thread_table.proofs.Events.Threads.{may_signal}
use Rattle.thread_table.proofs.Events.Allowed.{shifted}
use Rattle.thread_table.proofs.Events.Steps.{did_at}
use Rattle.thread_table.proofs.Hands.OnlyLoads.{stood}
use Rattle.thread_table.proofs.steps.or_signal.Goals as goal

pub fetch_or-requires : goal.fetch_or-requires
fetch_or-requires g c = (search rules, search rules, makes_it c.requires.mine.0 (may_signal _ _ c.requires.mine.1 _ _ _ c.requires.queue.2 c.requires.event.2 (shifted _ c.requires.event.2)) _ _ _ _ c.requires.event.0 c.requires.event.1 c.state_word.ensures.0)

pub returns-clause-effect : goal.returns-clause-effect
returns-clause-effect g c = did_at c.state_word.ensures.0 c.fetch_or.ensures.2.1

pub returns-clause-stands : goal.returns-clause-stands
returns-clause-stands g c = stood _ _ _ _ c.requires.event.0 (search rules) c.fetch_or.ensures.2.2
