use Rattle.claim_queue.proofs.Common.{◌≡◌, ◌<◌, ◌≤◌, true, length, IsSame, view_of}
use Rattle.claim_queue.specs.Client.{MayPut}
use Rattle.claim_queue.proofs.Putting.{Tried}
use Rattle.claim_queue.proofs.ends.ClaimQueue.put_as.Given as goal

abbrev pub invariant-loop : goal.invariant-loop
invariant-loop g l = record {
  steps : (goal.iterator-loop g).can_next l.iterator' × (goal.iterator-loop g).is_finite l.iterator';
  same : IsSame l.initial.end.seat l.end.seat;
  tried : Tried g.row.N (length l.items) l.initial.end.seat.me.0 l.end.seat.me.0;
  may : MayPut g.C.Protocol.allows (view_of l.end) l.items;
  shut : l.initial.end.seat.me.0.seen.object.shut ≡ true → 0 < length l.items → length l.items ≤ g.row.N → l.end.seat.me.0.seen.object.shut ≡ true;
}
