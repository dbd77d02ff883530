use Rattle.batch_queue.specs.Handles.{IsEndOf}
use Rattle.bench.proofs.batch.put_all.Given as goal

abbrev pub invariant-loop : goal.invariant-loop
invariant-loop g l = IsEndOf l.queue l.end
