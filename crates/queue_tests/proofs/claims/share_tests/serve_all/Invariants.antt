use Rattle.std.proofs.Common.{◌≡◌, ◌+◌}
use Rattle.claim_queue.specs.Handles.{IsEndOf, share_of}
use Rattle.queue_tests.proofs.claims.share_tests.serve_all.Given as goal

abbrev pub invariant-loop-connection : goal.invariant-loop-connection
invariant-loop-connection l = record {
  mine : IsEndOf l.queue l.acceptor;
  other : IsEndOf l.queue l.reaper;
  gave : share_of l.acceptor + l.connection ≡ share_of l.initial.acceptor;
  came : share_of l.reaper ≡ share_of l.initial.reaper + l.connection;
}
