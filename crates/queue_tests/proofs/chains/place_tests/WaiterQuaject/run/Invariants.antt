use Rattle.claim_queue.specs.Handles as queues
use Rattle.queue_tests.proofs.chains.place_tests.WaiterQuaject.run.Given as goal

abbrev pub invariant-loop : goal.invariant-loop
invariant-loop l = queues.IsEndOf l.world l.self.end
