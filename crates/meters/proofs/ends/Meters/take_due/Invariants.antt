use Rattle.meters.proofs.Common.{◌≤◌, IsSame}
use Rattle.meters.proofs.Following.{Swept}
use Rattle.meters.proofs.ends.Meters.take_due.Given as goal

abbrev pub invariant-loop-slot : goal.invariant-loop-slot
invariant-loop-slot l = record {
  same : IsSame l.initial.seat.seat l.seat.seat;
  valid : l.clock ≤ l.seat.seat.me.0.seen.object.clock;
  swept : Swept l.initial.seat.seat.me.0 l.clock l.slot l.fired.items l.seat.seat.me.0;
}
