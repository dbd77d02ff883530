use Rattle.quaject_core.proofs.Common.{◌≡◌, map, take, drop, ◌++◌, join_queue, queue}
use Rattle.quaject_core.proofs.store.join_queues.Given as goal

-- Those so far are joined, and the others are as they were.
abbrev pub invariant-loop-queue : goal.invariant-loop-queue
invariant-loop-queue l =
    map queue l.queue-items ≡ map (join_queue l.call l.other) (take l.queue-index (map queue l.fn.queues)) ++ drop l.queue-index (map queue l.fn.queues)
