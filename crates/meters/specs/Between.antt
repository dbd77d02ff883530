-- The properties that hold between any two steps: lawful meters of the core that the words and the views show.
use Rattle.std.specs.Prelude.{◌≡◌, ℕ, ◌+◌, ◌%◌, ◌^◌, ◌<◌, length, map, drop, slice_index_or, count_by, None}
use Rattle.atomic_table.specs.Table.{State}
use Rattle.event_theory.specs.declared.alarm.Alarm.{Alarm}
use Rattle.event_theory.specs.Lawful.{IsLawfulMeters, stands}
use Rattle.event_theory.specs.Meters.{Meters}
use Rattle.table_theory.specs.declared.views.AbsState.{AbsState}
use Rattle.table_theory.specs.Ledgers.{AreValidViews}
use Rattle.table_theory.specs.Sharing.{total}
use Rattle.meters.specs.Layout.{ends_word, clock_word, slot_word, word_of, width, gauges_in}
use Rattle.meters.specs.declared.layout.TheConstants.{GAUGES, SLOTS, TICKS}
use Rattle.meters.specs.declared.rule.Reading.{Reading}
use Rattle.meters.specs.declared.rule.Shape.{Shape}
use Rattle.meters.specs.Changes.{meters_of, first_reading}
use Rattle.meters.specs.Own.{SeatView, of_meters, nothing_did}
use Rattle.meters.specs.Views.{AdvancesShow, amount_on, times}
use Rattle.meters.specs.Words.{Fits}

-- the words and the views show the meters
pub record IsShown (key : Shape) (s : State Unit SeatView) (m : Meters) : Type 0 where
  pub long : length s.words ≡ width
  pub gauges : m.gauges ≡ gauges_in s.words
  pub clock : m.clock ≡ slice_index_or s.words clock_word 0
  pub tick : m.clock < TICKS
  pub alarms : map word_of m.slots ≡ drop (slot_word 0) s.words
  pub fit : (slot : ℕ) → slot < SLOTS → Fits (slice_index_or m.slots slot None)
  -- the gauges are the sums of the ticks that the ends list, modulo 2^64
  pub sums : (gauge : ℕ) → gauge < GAUGES
      → slice_index_or m.gauges gauge 0 ≡ total (λ v. amount_on gauge v.own.ticks) s.views % 2 ^ 64
  -- the ends list as many advances as the clock was moved on, one to each tick
  pub advances : AdvancesShow key.clock m.clock s.views
  pub set : (alarm : Alarm) → times alarm m.set ≡ total (λ v. times alarm v.own.set) s.views
  pub fired : (alarm : Alarm) → times alarm m.fired ≡ total (λ v. times alarm v.own.fired) s.views
  pub cancelled : (alarm : Alarm) → times alarm m.cancelled ≡ total (λ v. times alarm v.own.cancelled) s.views
  -- by the ends' lists, each alarm that was set was fired or cancelled, or is in a slot
  pub once : (alarm : Alarm) → total (λ v. times alarm v.own.set) s.views
      ≡ total (λ v. times alarm v.own.fired) s.views + total (λ v. times alarm v.own.cancelled) s.views
      + count_by (stands alarm) m.slots

-- there are lawful meters that the words and the views show
pub record ShowsMeters (key : Shape) (s : State Unit SeatView) : Type 0 where
  pub now : AbsState Reading
  pub meters : Meters
  pub lawful : IsLawfulMeters meters
  pub shown : IsShown key s meters
  pub same : meters ≡ meters_of now.object
  -- the first word has the number of ends
  pub number : slice_index_or s.words ends_word 0 ≡ now.ends
  -- the ends' steps lead from the first meters to these, and each end has seen all steps up to its own last one
  pub true_ends : AreValidViews of_meters nothing_did (first_reading key.clock) now s.views
