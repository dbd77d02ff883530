use Rattle.batch_queue.specs.Handles.{IsEndOf}
use Rattle.batch_tests.proofs.scripts.does.Given as goal

abbrev pub invariant-loop-at : goal.invariant-loop-at
invariant-loop-at g l = IsEndOf l.queue l.end
