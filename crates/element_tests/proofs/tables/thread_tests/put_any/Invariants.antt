use Rattle.thread_table.specs.Handles.{IsSameHand}
use Rattle.element_tests.proofs.tables.thread_tests.put_any.Given as goal

abbrev pub invariant-loop : goal.invariant-loop
invariant-loop g l = record {
  steps : (goal.iterator-loop g).can_next l.iterator' × (goal.iterator-loop g).is_finite l.iterator';
  same : IsSameHand l.initial.hand l.hand;
}
