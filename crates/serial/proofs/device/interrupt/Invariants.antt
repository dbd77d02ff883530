use Rattle.std.proofs.Common.{◌≡◌, false}
use Rattle.proc_chain.specs.Handles.{turn_of, view_of, IsEndOf}
use Rattle.serial.proofs.Sending.{Stays}
use Rattle.serial.proofs.device.interrupt.Given as goal

abbrev pub invariant-loop : goal.invariant-loop
invariant-loop g l = record {
  steps : (goal.iterator-loop g).can_next l.iterator' × (goal.iterator-loop g).is_finite l.iterator';
  mine : IsEndOf l.chain l.end;
  idle : turn_of l.end ≡ false;
  stays : Stays (view_of l.initial.end) (view_of l.end);
}
