use Rattle.batch_queue.proofs.Common.{IsSame, length, ◌≡◌}
use Rattle.batch_queue.specs.Client.{GoesOn}
use Rattle.batch_queue.proofs.Trying.{Waited}
use Rattle.batch_queue.proofs.ends.BatchQueue.take_as.Given as goal

abbrev pub invariant-loop : goal.invariant-loop
invariant-loop g l = record {
  steps : (goal.iterator-loop g).can_next l.iterator' × (goal.iterator-loop g).is_finite l.iterator';
  same : IsSame l.initial.end.seat l.end.seat;
  buffer : l.items ≡ l.initial.items;
  goes : GoesOn l.initial.end.seat.me.0 l.end.seat.me.0;
  waited : Waited l.self.room (length l.initial.items) l.initial.end.seat.me.0 l.end.seat.me.0;
}
