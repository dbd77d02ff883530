use Rattle.batch_queue.specs.Handles.{IsEndOf}
use Rattle.bench.proofs.batch.put_and_take.Given as goal

abbrev pub invariant-loop : goal.invariant-loop
invariant-loop l = IsEndOf l.queue l.end
