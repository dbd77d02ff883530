use Rattle.quajects.specs.Ports.{IsEndAt}
use Rattle.queue_tests.proofs.movers.thread_tests.hear_lines.Given as goal

abbrev pub invariant-loop : goal.invariant-loop
invariant-loop l = IsEndAt l.queues.large.items 0 l.reader

abbrev pub invariant-loop-item : goal.invariant-loop-item
invariant-loop-item l = Unit {0}
