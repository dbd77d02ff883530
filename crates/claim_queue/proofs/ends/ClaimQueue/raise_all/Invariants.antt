use Rattle.claim_queue.proofs.Common.{IsSame, Owns, KeepsOthers, RaisedFrom}
use Rattle.claim_queue.proofs.ends.ClaimQueue.raise_all.Given as goal

abbrev pub invariant-loop-i : goal.invariant-loop-i
invariant-loop-i g l = record {
  same : IsSame l.initial.end.seat l.end.seat;
  own : Owns l.end.seat.me.0 l.start l.items l.i;
  others : KeepsOthers l.start l.initial.end.seat.me.0 l.end.seat.me.0;
  steps : RaisedFrom g.row.N l.start l.items l.initial.end.seat.me.0 l.end.seat.me.0 l.i;
}
