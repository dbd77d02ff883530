use Rattle.meters.proofs.Common.{IsSame}
use Rattle.meters.proofs.Following.{Searched}
use Rattle.meters.proofs.ends.Meters.try_set.Given as goal

abbrev pub invariant-loop-slot : goal.invariant-loop-slot
invariant-loop-slot l = record {
  same : IsSame l.initial.seat.seat l.seat.seat;
  searched : Searched l.initial.seat.seat.me.0 l.slot l.seat.seat.me.0;
}
