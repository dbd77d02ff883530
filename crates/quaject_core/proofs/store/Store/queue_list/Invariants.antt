use Rattle.quaject_core.proofs.Common.{◌≡◌, map, take, queue_status, queue}
use Rattle.quaject_core.proofs.store.Store.queue_list.Given as goal

-- The numbers so far.
abbrev pub invariant-loop-queue : goal.invariant-loop-queue
invariant-loop-queue l = l.queues.items ≡ map (λ stored. queue_status (queue stored)) (take l.queue-index l.self.queues.items)
