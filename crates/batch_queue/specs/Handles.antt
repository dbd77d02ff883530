-- Names in the clauses for parts of a queue and of an end.
use Rattle.std.specs.Prelude.{◌≡◌, ◌≤◌, ℕ}
use Rattle.table_theory.specs.Sharing.{IsPortion, IsWhole}
use Rattle.batch_queue.specs.declared.ends.BatchEnd.{BatchEnd}
use Rattle.batch_queue.specs.declared.ends.BatchQueue.{BatchQueue}
use Rattle.batch_queue.specs.Own.{View}

-- the end's view: all that the end knows
abbrev pub view_of : BatchEnd → View
view_of end = end.seat.me.0

-- the number of the end: the core's events name the end by it, as their call
abbrev pub call_of : BatchEnd → ℕ
call_of end = end.seat.id

-- the number of places of the queue
abbrev pub room_of : {C : Type 0} → BatchQueue C → ℕ
room_of queue = queue.room

-- the end has the whole share: every other end was joined
abbrev pub IsOnlyEnd : BatchEnd → Type 0
IsOnlyEnd end = IsWhole end.seat.me.0.member.share

-- the end can be split: it has two parts of the share or more
abbrev pub IsDivisible : BatchEnd → Type 0
IsDivisible end = 2 ≤ end.seat.me.0.member.share

-- the end's share of its queue, in parts
abbrev pub share_of : BatchEnd → ℕ
share_of end = end.seat.me.0.member.share

-- the end can give so many parts to a new end: one or more, and one or more are kept
abbrev pub CanGive : BatchEnd → ℕ → Type 0
CanGive end parts = IsPortion parts end.seat.me.0.member.share

-- the end is an end of this queue
abbrev pub IsEndOf : {C : Type 0} → BatchQueue C → BatchEnd → Type 0
IsEndOf queue end = end.seat.table_id ≡ queue.table.shared.table_id

-- both are the same end of the same queue, at two moments
abbrev pub IsSameEnd : BatchEnd → BatchEnd → Type 0
IsSameEnd old new = (new.seat.table_id ≡ old.seat.table_id) × (new.seat.id ≡ old.seat.id)

-- both are ends of one queue
abbrev pub AreOfOneQueue : BatchEnd → BatchEnd → Type 0
AreOfOneQueue one other = other.seat.table_id ≡ one.seat.table_id
