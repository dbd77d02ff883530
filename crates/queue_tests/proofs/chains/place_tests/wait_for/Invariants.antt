use Rattle.claim_queue.specs.Handles as queues
use Rattle.queue_tests.proofs.chains.place_tests.wait_for.Given as goal

abbrev pub invariant-loop : goal.invariant-loop
invariant-loop g l = record {
  steps : (goal.iterator-loop g).can_next l.iterator' × (goal.iterator-loop g).is_finite l.iterator';
  end : queues.IsEndOf l.queue l.end;
}
