use Rattle.std.proofs.Common.{◌≡◌}
use Rattle.claim_queue.specs.Handles.{IsEndOf, share_of}
use Rattle.queue_tests.proofs.claims.share_tests.accepts_and_reaps.Given as goal

abbrev pub invariant-loop-round : goal.invariant-loop-round
invariant-loop-round g l = record {
  mine : IsEndOf l.queue l.acceptor;
  other : IsEndOf l.queue l.reaper;
  two : share_of l.acceptor ≡ 2;
  rest : share_of l.reaper ≡ share_of l.initial.reaper;
}
