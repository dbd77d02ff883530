use Rattle.thread_table.proofs.Schedule.Marks.{place_before, place_after, none_between}
use Rattle.thread_table.proofs.laws.waits_stand_by_notifies.Goals as goal

pub returns : goal.returns
returns c = record { before = place_before; after = place_after; none_between = none_between }
