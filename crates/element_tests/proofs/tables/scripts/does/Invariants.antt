use Rattle.thread_table.specs.Handles.{IsSameHand}
use Rattle.element_tests.proofs.tables.scripts.does.Given as goal

abbrev pub invariant-loop-at : goal.invariant-loop-at
invariant-loop-at g l = IsSameHand l.fn.hand l.hand
