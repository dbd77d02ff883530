use Rattle.claim_queue.proofs.Common.{◌≤◌, IsSame, Grows, tail_of}
use Rattle.claim_queue.proofs.Walking.{Walking}
use Rattle.claim_queue.specs.Walks.{AreRaised}
use Rattle.claim_queue.proofs.ends.ClaimQueue.count_raised.Given as goal

abbrev pub invariant-loop-i : goal.invariant-loop-i
invariant-loop-i g l = record {
  same : IsSame l.initial.end.seat l.end.seat;
  grows : Grows l.initial.end.seat.me.0.seen.object l.end.seat.me.0.seen.object;
  first : l.end.seat.me.0.seen.object.first ≤ l.tail;
  started : l.tail ≤ tail_of l.end.seat.me.0.seen.object;
  raised : AreRaised l.end.seat.me.0.seen.object l.tail l.i;
  walking : Walking g.row.N l.tail l.i l.initial.end.seat.me.0 l.end.seat.me.0;
}
