use Rattle.claim_queue.specs.Handles.{IsEndOf}
use Rattle.queue_tests.proofs.claims.scripts.does.Given as goal

abbrev pub invariant-loop-at : goal.invariant-loop-at
invariant-loop-at g l = IsEndOf l.queue l.end
