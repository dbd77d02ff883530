use Rattle.boot_threads.proofs.Common.{IsSameSeat}
use Rattle.meters.specs.Handles.{view_of}
use Rattle.meters.specs.Own.{DidNothing}
use Rattle.boot_threads.proofs.alarms.set_alarm.Given as goal

abbrev pub invariant-loop : goal.invariant-loop
invariant-loop g l = record {
  steps : (goal.iterator-loop g).can_next l.iterator' × (goal.iterator-loop g).is_finite l.iterator';
  same : IsSameSeat l.initial.seat l.seat;
  nothing : DidNothing (view_of l.initial.seat) (view_of l.seat);
}
