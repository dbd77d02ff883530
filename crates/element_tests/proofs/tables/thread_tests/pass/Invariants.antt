use Rattle.thread_table.specs.Handles.{IsHandOf}
use Rattle.element_tests.proofs.tables.thread_tests.pass.Given as goal

abbrev pub invariant-loop-i : goal.invariant-loop-i
invariant-loop-i g l = IsHandOf l.table l.hand
