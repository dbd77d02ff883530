use Rattle.batch_queue.specs.Handles.{IsEndOf}
use Rattle.bench.proofs.batch.take_one.Given as goal

abbrev pub invariant-loop : goal.invariant-loop
invariant-loop g l = record {
  steps : (goal.iterator-loop g).can_next l.iterator' × (goal.iterator-loop g).is_finite l.iterator';
  mine : IsEndOf l.queue l.end;
}
