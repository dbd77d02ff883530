use Rattle.thread_table.specs.Handles.{IsHandOf}
use Rattle.bench.proofs.ring.count_ready.Given as goal

abbrev pub invariant-loop : goal.invariant-loop
invariant-loop l = IsHandOf l.table l.hand
