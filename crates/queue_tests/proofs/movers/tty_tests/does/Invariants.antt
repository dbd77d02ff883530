use Rattle.quajects.specs.Ports.{IsEndAt}
use Rattle.quajects.specs.Terminals.{Fits}
use Rattle.queue_tests.proofs.movers.tty_tests.does.Given as goal

abbrev pub invariant-loop-at : goal.invariant-loop-at
invariant-loop-at g l = record {
  raw : IsEndAt l.queues.small.items 0 l.writer;
  line : IsEndAt l.queues.large.items 0 l.reader;
  screen : IsEndAt l.queues.large.items 1 l.viewer;
  tty : Fits l.queues l.tty;
}
