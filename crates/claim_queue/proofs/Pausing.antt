-- A pause just before the last step of a call.
use Rattle.claim_queue.proofs.Common.{List, [], ◌∷◌, ℕ, refl, Positions, Step, Performed, QueueEnd, QueueOps, view_of}
use Rattle.claim_queue.specs.Handles.{IsSameEnd}
use Rattle.claim_queue.specs.Pauses.{PausedBeforeLast}

-- the pause was called at the end after these loads, and then the end made one step
pub paused_last : {P : Type 0} → {n : ℕ} → (Called : P → P → Type 0) (CalledAt : QueueEnd n → P → P → Type 0) (old mid new : QueueEnd n) (p q : P) (loads : List (Step Positions)) (e : Step Positions) (own : QueueOps) → Called p q → CalledAt mid p q → IsSameEnd old mid → Performed (view_of old) loads (view_of old).own (view_of mid) → Performed (view_of mid) (e ∷ []) own (view_of new) → PausedBeforeLast Called CalledAt old new p q
paused_last Called CalledAt old mid new p q loads e own called at same before after = record { called = called; end = mid; at = at; same = same; loads = loads; before = before; last = e; after = record { adds = after.adds; did = refl; member = after.member } }
