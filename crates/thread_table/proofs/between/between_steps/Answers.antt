use Rattle.thread_table.proofs.Schedule.Betweens.{shows_elements}
use Rattle.thread_table.proofs.between.between_steps.Goals as goal

pub returns : goal.returns
returns c = shows_elements
