use Rattle.proc_chain.specs.Handles.{IsEndOf}
use Rattle.quajects.specs.Ports.{IsEndAt}
use Rattle.quajects.specs.Raws.{end_of}
use Rattle.queue_tests.proofs.movers.tty_tests.type_all.Given as goal

abbrev pub invariant-loop-byte : goal.invariant-loop-byte
invariant-loop-byte g l = record {
  fits : IsEndAt l.queues.small.items l.tty.index (end_of l.tty);
  chained : IsEndOf l.chain l.tty.chain;
}
