-- The lists of the ends together.
use Rattle.std.specs.Prelude.{◌≡◌, ◌⊎◌, ℕ, ◌+◌, ◌%◌, ◌^◌, ◌==◌, ◌<◌, ◌≤◌, List, if◌then◌else◌, length, slice_index_or}
use Rattle.std.specs.Prelude.{sum_by, count_by}
use Rattle.event_theory.specs.declared.alarm.Alarm.{Alarm}
use Rattle.event_theory.specs.Lawful.{is_alarm}
use Rattle.table_theory.specs.Sharing.{total}
use Rattle.meters.specs.declared.layout.TheConstants.{GAUGES}
use Rattle.meters.specs.declared.rule.Reading.{Reading}
use Rattle.meters.specs.declared.rule.Tick.{Tick}
use Rattle.meters.specs.Own.{SeatView}

-- how much these ticks add to a gauge
abbrev pub amount_on : ℕ → List Tick → ℕ
amount_on gauge ticks = sum_by (λ tick. if tick.gauge == gauge then tick.amount else 0) ticks

-- how often an alarm is in a list
abbrev pub times : Alarm → List Alarm → ℕ
times alarm alarms = count_by (is_alarm alarm) alarms

-- how often the clock was moved on to a tick
abbrev pub times_to : ℕ → List ℕ → ℕ
times_to tick clocks = count_by (λ clock. clock == tick) clocks

-- the ends list as many advances as lead from the first clock to this one: one to each tick between, and no other
pub record AdvancesShow (first clock : ℕ) (views : List SeatView) : Type 0 where
  pub number : clock ≡ first + total (λ v. length v.own.advances) views
  pub once : (tick : ℕ) → first < tick → tick ≤ clock → total (λ v. times_to tick v.own.advances) views ≡ 1
  pub never : (tick : ℕ) → (tick ≤ first) ⊎ (clock < tick) → total (λ v. times_to tick v.own.advances) views ≡ 0

-- the ends together list each tick, each advance from the first clock on, and each alarm set, fired and cancelled
pub record ViewsShow (first : ℕ) (m : Reading) (views : List SeatView) : Type 0 where
  pub gauges : (gauge : ℕ) → gauge < GAUGES
      → slice_index_or m.gauges gauge 0 ≡ total (λ v. amount_on gauge v.own.ticks) views % 2 ^ 64
  pub advances : AdvancesShow first m.clock views
  pub set : (alarm : Alarm) → times alarm m.set ≡ total (λ v. times alarm v.own.set) views
  pub fired : (alarm : Alarm) → times alarm m.fired ≡ total (λ v. times alarm v.own.fired) views
  pub cancelled : (alarm : Alarm) → times alarm m.cancelled ≡ total (λ v. times alarm v.own.cancelled) views

-- The end lists no alarm as set, fired or cancelled more often than it was, up to what the end has seen.
pub record IsPart (v : SeatView) : Type 0 where
  pub set : (alarm : Alarm) → times alarm v.own.set ≤ times alarm v.seen.object.set
  pub fired : (alarm : Alarm) → times alarm v.own.fired ≤ times alarm v.seen.object.fired
  pub cancelled : (alarm : Alarm) → times alarm v.own.cancelled ≤ times alarm v.seen.object.cancelled
