use Rattle.thread_table.specs.Handles.{IsHandOf}
use Rattle.element_tests.proofs.hands.thread_tests.two_processors.Given as goal

abbrev pub invariant-loop : goal.invariant-loop
invariant-loop g l = IsHandOf l.threads l.first
