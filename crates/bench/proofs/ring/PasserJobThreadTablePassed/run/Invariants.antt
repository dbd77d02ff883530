use Rattle.thread_table.specs.Handles.{IsHandOf}
use Rattle.bench.proofs.ring.PasserJobThreadTablePassed.run.Given as goal

abbrev pub invariant-loop : goal.invariant-loop
invariant-loop g l = IsHandOf l.table l.hand
