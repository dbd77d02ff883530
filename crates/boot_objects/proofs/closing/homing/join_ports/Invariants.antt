use Rattle.boot_objects.proofs.Common.{◌≡◌, ◌++◌, array_into_iter_items, AreSameEnds, Gained}
use Rattle.boot_objects.proofs.closing.homing.join_ports.Given as goal

abbrev pub invariant-loop-port : goal.invariant-loop-port
invariant-loop-port g l = record {
  gained : Gained l.yielded l.initial.ends l.ends;
  same : AreSameEnds l.initial.ends l.ends;
  parts : l.yielded ++ array_into_iter_items l.port-iterator ≡ l.fn.ports;
}
