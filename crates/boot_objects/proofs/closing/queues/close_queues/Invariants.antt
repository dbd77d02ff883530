use Rattle.boot_objects.proofs.Common.{◌≡◌, ◌≤◌, length, vec_len, vec_capacity, into_iter_items, into_iter_len, IsClosed}
use Rattle.boot_objects.proofs.Drawing.{Drawn}
use Rattle.boot_objects.proofs.closing.queues.close_queues.Given as goal

abbrev pub invariant-loop-queue : goal.invariant-loop-queue
invariant-loop-queue g l = record {
  drawn : Drawn IsClosed l.fn.queues.items l.fn.ends.items l.yielded (into_iter_items l.queue-iterator) (into_iter_items l.ends) l.closed.items;
  left : into_iter_len l.queue-iterator ≡ length (into_iter_items l.queue-iterator);
  rest : into_iter_len l.ends ≡ length (into_iter_items l.ends);
  number : vec_len l.closed ≡ length l.yielded;
  room : length l.fn.queues.items ≤ vec_capacity l.closed;
}
