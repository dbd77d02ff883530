use Rattle.thread_table.proofs.Events.Saying.{oldest_says, unraised_says, as_load}
use Rattle.thread_table.proofs.laws.takings_say.Goals as goal

pub returns : goal.returns
returns c = record {
  oldest = oldest_says;
  unraised = unraised_says;
  found = as_load;
}
