use Rattle.thread_table.proofs.Common.{rules, ap, ◌∙◌, head_word}
use Rattle.thread_table.proofs.Events.Allowed.{makes_it}
use Rattle.thread_table.proofs.Events.Notices.{may_notify}
use Rattle.thread_table.proofs.Events.Steps.{did_at}
use Rattle.thread_table.proofs.Hands.OnlyLoads.{stood}
use Rattle.thread_table.proofs.steps.add_notify.Goals as goal

pub fetch_add-requires : goal.fetch_add-requires
fetch_add-requires g c = (search rules, search rules, makes_it c.requires.mine.0 (may_notify _ _ c.requires.mine.1 _ c.requires.queue.2) _ _ _ _ c.requires.event.0 c.requires.event.1 (c.head_word.ensures.0 ∙ ap head_word c.wait_ring.ensures.0))

pub returns-clause-effect : goal.returns-clause-effect
returns-clause-effect g c = did_at (c.head_word.ensures.0 ∙ ap head_word c.wait_ring.ensures.0) c.fetch_add.ensures.2.1

pub returns-clause-stands : goal.returns-clause-stands
returns-clause-stands g c = stood _ _ _ _ c.requires.event.0 (search rules) c.fetch_add.ensures.2.2
