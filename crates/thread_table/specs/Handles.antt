-- The terms in which a contract speaks of a table and of a hand.
use Rattle.std.specs.Prelude.{ℕ}
use Rattle.thread_table.specs.Own.{View}
use Rattle.thread_table.specs.declared.hand.ThreadTable.{ThreadTable}
use Rattle.thread_table.specs.declared.hand.Hand.{Hand}
use Rattle.table_theory.specs.Seating as seats
use Rattle.table_theory.specs.Sharing.{IsPortion}

-- the view of the hand: what it knows
abbrev pub view_of : Hand → View
view_of hand = hand.seat.me.0

-- the number of the hand, which is the call of its events
abbrev pub call_of : Hand → ℕ
call_of hand = hand.seat.id

-- every other hand was joined
abbrev pub IsOnlyHand : Hand → Type 0
IsOnlyHand hand = seats.IsOnly hand.seat

-- the hand can be split: it has two parts of the share or more
abbrev pub IsDivisible : Hand → Type 0
IsDivisible hand = seats.IsDivisible hand.seat

-- the hand's share of its table, in parts
abbrev pub share_of : Hand → ℕ
share_of hand = hand.seat.me.0.member.share

-- the hand can give so many parts to a new hand: one or more, and one or more are kept
abbrev pub CanGive : Hand → ℕ → Type 0
CanGive hand parts = IsPortion parts hand.seat.me.0.member.share

-- it is a hand of this table
abbrev pub IsHandOf : ThreadTable → Hand → Type 0
IsHandOf table hand = seats.IsOf table.table.shared.table_id hand.seat

-- it is the same hand of the same table
abbrev pub IsSameHand : Hand → Hand → Type 0
IsSameHand old new = seats.IsSame old.seat new.seat

-- both are hands of one table
abbrev pub AreOfOneTable : Hand → Hand → Type 0
AreOfOneTable one other = seats.IsOf one.seat.table_id other.seat

-- the first position of each element queue
abbrev pub first_of : ThreadTable → ℕ
first_of table = table.first
