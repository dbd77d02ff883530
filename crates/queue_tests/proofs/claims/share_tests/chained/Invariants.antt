use Rattle.std.proofs.Common.{◌≤◌, ◌+◌, All}
use Rattle.claim_queue.specs.Handles.{IsEndOf, share_of}
use Rattle.queue_tests.proofs.claims.share_tests.chained.Given as goal

abbrev pub invariant-loop-number : goal.invariant-loop-number
invariant-loop-number g l = record {
  mine : IsEndOf l.queue l.last;
  share : 45 ≤ share_of l.last + l.number;
  others : All (λ end. IsEndOf l.queue end) l.before.items;
}

abbrev pub invariant-loop : goal.invariant-loop
invariant-loop g l = record {
  mine : IsEndOf l.queue l.last;
  others : All (λ end. IsEndOf l.queue end) l.before.items;
}
