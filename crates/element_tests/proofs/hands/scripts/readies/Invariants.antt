use Rattle.thread_table.specs.Handles.{IsSameHand}
use Rattle.element_tests.proofs.hands.scripts.readies.Given as goal

abbrev pub invariant-loop : goal.invariant-loop
invariant-loop g l = IsSameHand l.fn.hand l.hand
