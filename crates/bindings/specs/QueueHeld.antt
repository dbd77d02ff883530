-- A handle of a queue holds an end of a queue of 64 places, or of one of 256.
use Rattle.std.specs.Prelude.{◌≡◌, ◌⊎◌, ℕ, List, Result, Ok, Err}
use Rattle.bindings.specs.QueueParts.{Part, IsNewPart, IsOneQueue, SynthClosed, ClosedPart}
use Rattle.bindings.specs.Shares.{IsOneMark, Share}
use Rattle.bindings.specs.declared.queue.held.HeldQueue.TheVariants.{Small, Large}
pub use Rattle.bindings.specs.Kinds.{HeldQueue}

-- a size that a queue can have
abbrev pub IsSize : ℕ → Type 0
IsSize places = (places ≡ 64) ⊎ (places ≡ 256)

-- how many places the queue has
abbrev pub places_of : HeldQueue → ℕ
places_of (Small x) = 64
places_of (Large x) = 256

-- how much of the queue the end has
abbrev pub share_of : HeldQueue → Share
share_of (Small x) = x.share
share_of (Large x) = x.share

-- the queues have one size, and R holds of the ends
abbrev pub AtSize : ((n : ℕ) → Part n → Part n → Type 0) → HeldQueue → HeldQueue → Type 0
AtSize R (Small x) (Small y) = R 64 x y
AtSize R (Large x) (Large y) = R 256 x y
AtSize R x y = ⊥

-- the three queues have one size, and R holds of the ends
abbrev pub AtSizes : ((n : ℕ) → Part n → Part n → Part n → Type 0) → HeldQueue → HeldQueue → HeldQueue → Type 0
AtSizes R (Small x) (Small y) (Small z) = R 64 x y z
AtSizes R (Large x) (Large y) (Large z) = R 256 x y z
AtSizes R x y z = ⊥

-- the queues have one size and one mark
abbrev pub HaveOneMark : HeldQueue → HeldQueue → Type 0
HaveOneMark = AtSize (λ n x y. IsOneMark x.share y.share)

-- both are ends of one queue
abbrev pub AreOfOneQueue : HeldQueue → HeldQueue → Type 0
AreOfOneQueue = AtSize IsOneQueue

-- the only end of an empty queue with this number of places, this first position and this mark
abbrev pub IsNewHeld : ℕ → ℕ → ℕ → HeldQueue → Type 0
IsNewHeld places first mark (Small x) = (places ≡ 64) × IsNewPart first mark 64 x
IsNewHeld places first mark (Large x) = (places ≡ 256) × IsNewPart first mark 256 x

-- the end in a handle closed its queue, of 64 or 256 places; or the end and the buffer are unchanged
abbrev pub EndedHeld : List ℕ → List ℕ → Result SynthClosed HeldQueue → HeldQueue → Type 0
EndedHeld old new (Ok c) (Small x) = ClosedPart old new c 64 x
EndedHeld old new (Ok c) (Large x) = ClosedPart old new c 256 x
EndedHeld old new (Err y) x = (y ≡ x) × (new ≡ old)
