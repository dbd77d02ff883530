use Rattle.quajects.specs.Ports.{IsEndAt}
use Rattle.queue_tests.proofs.movers.thread_tests.hear_rest.Given as goal

abbrev pub invariant-loop : goal.invariant-loop
invariant-loop l = IsEndAt l.queues.small.items 0 l.device
