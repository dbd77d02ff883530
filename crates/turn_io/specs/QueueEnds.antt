-- The ends of all queues, small and large, and what one step does at them.
use Rattle.std.specs.Prelude.{◌≡◌, ◌<◌, ℕ, Bool, List, length, Result}
use Rattle.boot_data.specs.declared.plan.QueueIndex.{QueueIndex}
use Rattle.boot_data.specs.declared.plan.QueueIndex.TheVariants.{Small, Large}
use Rattle.claim_queue.specs.declared.claim.ClaimRefusal.{ClaimRefusal}
use Rattle.claim_queue.specs.declared.ends.QueueEnd.{QueueEnd}
use Rattle.claim_queue.specs.declared.take.TakeRefusal.{TakeRefusal}
use Rattle.quajects.specs.declared.world.Queues.{Queues}
use Rattle.turn_io.specs.declared.queue_ends.QueueEnds.{QueueEnds}
use Rattle.turn_io.specs.EndLists.{AreEndsOf, AreSameEnds, OnEnd}
use Rattle.turn_io.specs.Outcomes.{Said, Heard, HasShut}

-- the ends are those of the queues, in their order
pub record AreQueueEndsOf (queues : Queues) (ends : QueueEnds) : Type 0 where
  pub small : AreEndsOf queues.small.items ends.small.items
  pub large : AreEndsOf queues.large.items ends.large.items

-- both are the same ends of the same queues
pub record AreSameQueueEnds (old new : QueueEnds) : Type 0 where
  pub small : AreSameEnds old.small.items new.small.items
  pub large : AreSameEnds old.large.items new.large.items

-- a queue with this index exists
abbrev pub IsThere : Queues → QueueIndex → Type 0
IsThere queues (Small q) = q < length queues.small.items
IsThere queues (Large q) = q < length queues.large.items

-- the end of the queue with this index did this, and all other ends nothing
abbrev pub OnQueue : QueueIndex → ((n : ℕ) → QueueEnd n → QueueEnd n → Type 0) → QueueEnds → QueueEnds → Type 0
OnQueue (Small q) Does old new = OnEnd q (Does 64) old.small.items new.small.items × (new.large ≡ old.large)
OnQueue (Large q) Does old new = OnEnd q (Does 256) old.large.items new.large.items × (new.small ≡ old.small)

-- the queue's end put the line, or was refused with this answer; all other ends are unchanged
abbrev pub SaidAt : {A : Type 0} → QueueIndex → List ℕ → Result A ClaimRefusal → QueueEnds → QueueEnds → Type 0
SaidAt queue line answer old new = OnQueue queue (λ n. Said {n = n} line answer) old new

-- the queue's end took the line, or was refused with this answer; all other ends are unchanged
abbrev pub HeardAt : {A : Type 0} → QueueIndex → List ℕ → Result A TakeRefusal → QueueEnds → QueueEnds → Type 0
HeardAt queue line answer old new = OnQueue queue (λ n. Heard {n = n} line answer) old new

-- the queue is shut, and the answer is whether it was open; all ends except the queue's are unchanged
abbrev pub ShutAt : QueueIndex → Bool → QueueEnds → QueueEnds → Type 0
ShutAt queue was_open old new = OnQueue queue (λ n. HasShut {n = n} was_open) old new
