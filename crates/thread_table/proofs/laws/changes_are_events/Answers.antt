use Rattle.thread_table.proofs.Events.Saying.{change_says}
use Rattle.thread_table.proofs.laws.changes_are_events.Goals as goal

pub returns : goal.returns
returns c = change_says
