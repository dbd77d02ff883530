-- The terms in which a contract speaks of the meters and of their ends.
use Rattle.std.specs.Prelude.{ℕ}
use Rattle.meters.specs.declared.ends.Meters.{Meters}
use Rattle.meters.specs.declared.ends.MeterSeat.{MeterSeat}
use Rattle.meters.specs.Own.{SeatView}
use Rattle.table_theory.specs.Seating as seats
use Rattle.table_theory.specs.Sharing.{IsPortion}

-- the view of the end: what it knows
abbrev pub view_of : MeterSeat → SeatView
view_of end = end.seat.me.0

-- the clock with which the meters were made
abbrev pub first_of : Meters → ℕ
first_of meters = meters.table.shared.key.clock

-- every other end was joined
abbrev pub IsOnlySeat : MeterSeat → Type 0
IsOnlySeat end = seats.IsOnly end.seat

-- the end can be split: it has two parts of the share or more
abbrev pub IsDivisible : MeterSeat → Type 0
IsDivisible end = seats.IsDivisible end.seat

-- the end's share of its meters, in parts
abbrev pub share_of : MeterSeat → ℕ
share_of end = end.seat.me.0.member.share

-- the end can give so many parts to a new end: one or more, and one or more are kept
abbrev pub CanGive : MeterSeat → ℕ → Type 0
CanGive end parts = IsPortion parts end.seat.me.0.member.share

-- it is an end of these meters
abbrev pub IsSeatOf : Meters → MeterSeat → Type 0
IsSeatOf meters end = seats.IsOf meters.table.shared.table_id end.seat

-- it is the same end of the same meters
abbrev pub IsSameSeat : MeterSeat → MeterSeat → Type 0
IsSameSeat old new = seats.IsSame old.seat new.seat

-- both are ends of the same meters
abbrev pub AreOfOneTable : MeterSeat → MeterSeat → Type 0
AreOfOneTable one other = seats.IsOf one.seat.table_id other.seat
