-- The queue that the machine stores.
use Rattle.event_theory.specs.Queues.{Queue}
use Rattle.quaject_core.specs.Layout.{queue_at}
use Rattle.quaject_core.specs.declared.queueing.StoredQueue.{StoredQueue}

-- the queue that a stored queue represents
abbrev pub queue : StoredQueue → Queue
queue stored = queue_at stored.capacity stored.runs.items stored.places.items stored.taken stored.shut
