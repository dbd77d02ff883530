-- The queues that are made, each with its only end.
use Rattle.std.specs.Prelude.{◌≡◌, ◌≤◌, ℕ, List, length, Some}
use Rattle.std.specs.List.{AllZip, slice_get}
use Rattle.claim_queue.specs.Plain.{ClaimQueue}
use Rattle.claim_queue.specs.declared.ends.QueueEnd.{QueueEnd}
use Rattle.claim_queue.specs.Handles.{IsEndOf, first_of, view_of}
use Rattle.claim_queue.specs.Rules.{newcomer}

-- the queue is empty at 0, and this is its only end
abbrev pub IsFresh : {n : ℕ} → ClaimQueue n → QueueEnd n → Type 0
IsFresh {n} queue end = IsEndOf queue end × (first_of queue ≡ 0)
    × (view_of end ≡ newcomer (record { first = 0; room = n }))

-- there are this many queues, each empty at 0 and with its only end
abbrev pub AreFresh : {n : ℕ} → ℕ → List (ClaimQueue n) → List (QueueEnd n) → Type 0
AreFresh count queues ends = (length queues ≡ count) × AllZip IsFresh queues ends

-- the ends are the only ends of the first queues of the list, one of each, and each of these queues is empty at 0
pub record AreFront {n : ℕ} (queues : List (ClaimQueue n)) (ends : List (QueueEnd n)) : Type 0 where
  pub few : length ends ≤ length queues
  pub fresh : (i : ℕ) (queue : ClaimQueue n) (end : QueueEnd n) → slice_get queues i ≡ Some queue
      → slice_get ends i ≡ Some end → IsFresh queue end
