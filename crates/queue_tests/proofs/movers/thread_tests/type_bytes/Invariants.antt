use Rattle.proc_chain.specs.Handles.{IsEndOf}
use Rattle.quajects.specs.Ports.{IsEndAt}
use Rattle.quajects.specs.Raws.{end_of}
use Rattle.queue_tests.proofs.movers.thread_tests.type_bytes.Given as goal

abbrev pub invariant-loop-n : goal.invariant-loop-n
invariant-loop-n g l = record {
  fits : IsEndAt l.queues.small.items l.tty.index (end_of l.tty);
  chained : IsEndOf l.chain l.tty.chain;
}
