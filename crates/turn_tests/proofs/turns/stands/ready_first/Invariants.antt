use Rattle.thread_table.specs.Handles.{IsSameHand}
use Rattle.turn_tests.proofs.turns.stands.ready_first.Given as goal

abbrev pub invariant-loop : goal.invariant-loop
invariant-loop g l = IsSameHand l.fn.hand l.hand
