use Rattle.batch_queue.specs.Handles.{IsEndOf}
use Rattle.batch_tests.proofs.thread_tests.feed.Given as goal

abbrev pub invariant-loop-batch : goal.invariant-loop-batch
invariant-loop-batch g l = IsEndOf l.queue l.end
