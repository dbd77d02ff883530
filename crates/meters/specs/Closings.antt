-- The result of closing the meters.
use Rattle.std.specs.Prelude.{◌≡◌, ◌+◌, ◌%◌, ◌^◌, ◌<◌, ◌≤◌, ℕ, List, [], ◌∷◌, length, slice_index_or}
use Rattle.event_theory.specs.declared.alarm.Alarm.{Alarm}
use Rattle.table_theory.specs.Ledgers as ends
use Rattle.table_theory.specs.Sharing.{IsWhole}
use Rattle.meters.specs.Layout.{ends_word}
use Rattle.meters.specs.declared.layout.TheConstants.{GAUGES}
use Rattle.meters.specs.Changes.{IsLawful}
use Rattle.meters.specs.Own.{SeatView}
use Rattle.meters.specs.Views.{ViewsShow, amount_on, times, times_to}
use Rattle.meters.specs.Words.{standing}

-- By the list of the one end: the gauges are the sums of the ticks, modulo 2^64. The advances lead from the first clock
-- to this one, one to each tick. Each alarm that was set was fired or cancelled, or is left.
pub record IsAllOf (v : SeatView) (first : ℕ) (gauges : List ℕ) (clock : ℕ) (alarms : List Alarm) : Type 0 where
  pub sums : (gauge : ℕ) → gauge < GAUGES
      → slice_index_or gauges gauge 0 ≡ amount_on gauge v.own.ticks % 2 ^ 64
  pub number : clock ≡ first + length v.own.advances
  pub each : (tick : ℕ) → first < tick → tick ≤ clock → times_to tick v.own.advances ≡ 1
  pub once : (alarm : Alarm)
      → times alarm v.own.set ≡ times alarm v.own.fired + times alarm v.own.cancelled + times alarm alarms

-- The meters are closed by an end that has the whole. It has seen the meters as they are and lists all their events,
-- and each split was joined. These are the gauges, the clock and the alarms in the slots at the end.
pub record ClosedNow (first : ℕ) (v : SeatView) (gauges : List ℕ) (clock : ℕ) (alarms : List Alarm) : Type 0 where
  pub whole : IsWhole v.member.share
  pub lawful : IsLawful v.seen.object
  pub listed : ViewsShow first v.seen.object (v ∷ [])
  pub sole : v.seen.ends ≡ 1
  pub joined : v.member.splits ≡ v.member.joins
  pub gauges_are : gauges ≡ v.seen.object.gauges
  pub clock_is : clock ≡ v.seen.object.clock
  pub alarms_are : alarms ≡ standing v.seen.object.slots
  pub all : IsAllOf v first gauges clock alarms

-- other ends exist: the number of ends was found, this end included, and this end doesn't have the whole
abbrev pub WereOpen : SeatView → ℕ → SeatView → Type 0
WereOpen v others w = ends.WereOpen ends_word v others w
