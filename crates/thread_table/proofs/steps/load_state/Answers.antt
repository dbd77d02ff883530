use Rattle.thread_table.proofs.Events.Steps.{found_at, state_found}
use Rattle.thread_table.proofs.steps.load_state.Goals as goal

pub returns-clause-found : goal.returns-clause-found
returns-clause-found c = found_at c.state_word.ensures.0 c.load.ensures.2

pub returns-clause-state : goal.returns-clause-state
returns-clause-state c = state_found _ _ _ _ c.requires.queue.2 (found_at c.state_word.ensures.0 c.load.ensures.2)

pub returns-clause-stands : goal.returns-clause-stands
returns-clause-stands c = c.load.ensures.3
