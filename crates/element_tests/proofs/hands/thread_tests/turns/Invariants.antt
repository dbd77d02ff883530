use Rattle.thread_table.specs.Handles.{view_of, IsHandOf}
use Rattle.turn_dispatch.specs.Holdings.{IsFree}
use Rattle.element_tests.proofs.hands.thread_tests.turns.Given as goal

abbrev pub invariant-loop-t : goal.invariant-loop-t
invariant-loop-t g l = IsHandOf l.threads l.hand × IsFree l.p (view_of l.hand)
