use Rattle.claim_queue.specs.Handles.{IsEndOf}
use Rattle.queue_tests.proofs.claims.thread_tests.feed.Given as goal

abbrev pub invariant-loop-line : goal.invariant-loop-line
invariant-loop-line g l = IsEndOf l.queue l.end
