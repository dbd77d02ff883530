use Rattle.thread_table.proofs.Events.Steps.{found_at, found_head}
use Rattle.thread_table.proofs.steps.load_head.Goals as goal

pub returns-clause-found : goal.returns-clause-found
returns-clause-found c = found_at c.head_word.ensures.0 c.load.ensures.2

pub returns-clause-head : goal.returns-clause-head
returns-clause-head c = found_head _ _ _ _ c.requires.queue.2 (found_at c.head_word.ensures.0 c.load.ensures.2)

pub returns-clause-stands : goal.returns-clause-stands
returns-clause-stands c = c.load.ensures.3
