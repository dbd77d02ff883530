use Rattle.batch_queue.proofs.Common.{IsSame, length, true, ◌<◌, ◌≡◌, ◌≤◌}
use Rattle.batch_queue.specs.Client.{GoesOn, MayPut}
use Rattle.batch_queue.proofs.Trying.{Tried}
use Rattle.batch_queue.proofs.ends.BatchQueue.put_as.Given as goal

abbrev pub invariant-loop : goal.invariant-loop
invariant-loop g l = record {
  steps : (goal.iterator-loop g).can_next l.iterator' × (goal.iterator-loop g).is_finite l.iterator';
  same : IsSame l.initial.end.seat l.end.seat;
  tried : Tried l.self.room (length l.items) l.initial.end.seat.me.0 l.end.seat.me.0;
  may : MayPut g.C.Protocol.allows l.end.seat.me.0 l.items;
  goes : GoesOn l.initial.end.seat.me.0 l.end.seat.me.0;
  shut : l.initial.end.seat.me.0.seen.object.shut ≡ true → 0 < length l.items → length l.items ≤ l.self.room → l.end.seat.me.0.seen.object.shut ≡ true;
}
