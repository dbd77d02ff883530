use Rattle.boot_threads.proofs.Common.{SameOut, ReceivesNothing}
use Rattle.boot_threads.proofs.device.next_byte.Given as goal

abbrev pub invariant-loop : goal.invariant-loop
invariant-loop g l = record {
  steps : (goal.iterator-loop g).can_next l.iterator' × (goal.iterator-loop g).is_finite l.iterator';
  same : SameOut l.initial.line l.line;
  nothing : ReceivesNothing l.initial.line l.line;
}
