-- Names in the clauses for parts of a queue and of an end.
use Rattle.std.specs.Prelude.{◌≡◌, ◌≤◌, ℕ}
use Rattle.claim_queue.specs.declared.ends.ClaimQueue.{ClaimQueue}
use Rattle.claim_queue.specs.declared.ends.QueueEnd.{QueueEnd}
use Rattle.claim_queue.specs.Own.{View}
use Rattle.table_theory.specs.Sharing.{IsPortion, IsWhole}

-- the end's view: all that the end knows
abbrev pub view_of : {n : ℕ} → QueueEnd n → View
view_of end = end.seat.me.0

-- the number of the end: the core's events name the end by it, as their call
abbrev pub call_of : {n : ℕ} → QueueEnd n → ℕ
call_of end = end.seat.id

-- the end has the whole share: every other end was joined
abbrev pub IsOnlyEnd : {n : ℕ} → QueueEnd n → Type 0
IsOnlyEnd end = IsWhole end.seat.me.0.member.share

-- the end can be split: it has two parts of the share or more
abbrev pub IsDivisible : {n : ℕ} → QueueEnd n → Type 0
IsDivisible end = 2 ≤ end.seat.me.0.member.share

-- the end's share of its queue, in parts
abbrev pub share_of : {n : ℕ} → QueueEnd n → ℕ
share_of end = end.seat.me.0.member.share

-- the end can give so many parts to a new end: one or more, and one or more are kept
abbrev pub CanGive : {n : ℕ} → QueueEnd n → ℕ → Type 0
CanGive end parts = IsPortion parts end.seat.me.0.member.share

-- the end is an end of this queue
abbrev pub IsEndOf : {n : ℕ} {C : Type 0} → ClaimQueue n C → QueueEnd n → Type 0
IsEndOf queue end = end.seat.table_id ≡ queue.table.shared.table_id

-- both are the same end of the same queue, at two moments
abbrev pub IsSameEnd : {n : ℕ} → QueueEnd n → QueueEnd n → Type 0
IsSameEnd old new = (new.seat.table_id ≡ old.seat.table_id) × (new.seat.id ≡ old.seat.id)

-- both are ends of one queue
abbrev pub AreOfOneQueue : {n : ℕ} → QueueEnd n → QueueEnd n → Type 0
AreOfOneQueue one other = other.seat.table_id ≡ one.seat.table_id

-- the queue's first position
abbrev pub first_of : {n : ℕ} {C : Type 0} → ClaimQueue n C → ℕ
first_of queue = queue.first
