use Rattle.boot_threads.proofs.Common.{◌≡◌, SameOut, IsEndOf, IsEndAt, end_of, Served}
use Rattle.boot_threads.proofs.device.serve_device.Given as goal

abbrev pub invariant-loop-served : goal.invariant-loop-served
invariant-loop-served g l = record {
  same : SameOut l.initial.line l.line;
  index : l.tty.index ≡ l.initial.tty.index;
  fits : IsEndAt l.queues.small.items l.tty.index (end_of l.tty);
  chained : IsEndOf l.chain l.tty.chain;
  done : Served l.chain l._served l.initial.line l.initial.tty l.line l.tty;
}
