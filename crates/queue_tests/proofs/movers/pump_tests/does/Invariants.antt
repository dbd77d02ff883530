use Rattle.quajects.specs.Ports.{IsEndAt}
use Rattle.quajects.specs.Pumps.{Fits}
use Rattle.queue_tests.proofs.movers.pump_tests.does.Given as goal

abbrev pub invariant-loop-at : goal.invariant-loop-at
invariant-loop-at g l = record {
  source : IsEndAt l.queues.small.items 0 l.writer;
  target : IsEndAt l.queues.small.items 1 l.reader;
  pump : Fits l.queues l.pump;
}
