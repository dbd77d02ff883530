use Rattle.bindings.proofs.Calls.{◌≡◌, take, map}
use Rattle.bindings.specs.SeatAlarms.{IsRestKept, c_alarm}
use Rattle.bindings.proofs.seat.alarm.tell_alarms.Given as goal

abbrev pub invariant-loop-i : goal.invariant-loop-i
invariant-loop-i l = record {
  reported : take l.i l.out ≡ map c_alarm (take l.i l.alarms);
  kept : IsRestKept l.i l.initial.out l.out;
}
