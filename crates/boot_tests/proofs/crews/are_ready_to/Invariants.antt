use Rattle.thread_table.specs.Handles.{IsHandOf}
use Rattle.boot_tests.proofs.crews.are_ready_to.Given as goal

abbrev pub invariant-loop-number : goal.invariant-loop-number
invariant-loop-number l = IsHandOf l.threads l.hand
