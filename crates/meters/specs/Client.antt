-- What each call promises its client: what it did to the meters, and what its answer means at a moment of the call.
use Rattle.std.specs.Prelude.{◌≡◌, ◌≢◌, ◌⊎◌, ℕ, ◌+◌, ◌%◌, ◌^◌, ◌<◌, ◌≤◌, Bool, true, false}
use Rattle.std.specs.Prelude.{List, [], ◌∷◌, ◌++◌, length}
use Rattle.std.specs.Prelude.{Option, Some, None, slice_index_or}
use Rattle.std.specs.List.{AllByRecursion}
use Rattle.event_theory.specs.declared.alarm.Alarm.{Alarm}
use Rattle.table_theory.specs.Ends.{Begins}
use Rattle.table_theory.specs.Ledgers.{Step, ExtendsTrace, both}
pub use Rattle.table_theory.specs.Moments.{AtSomeMoment, AtTwoMoments, Does}
use Rattle.meters.specs.Changes.{in_slot, with_tick, with_advance, with_alarm, with_fired, with_cancelled}
use Rattle.meters.specs.Own.{SeatView, did_both}
use Rattle.meters.specs.Words.{standing}
use Rattle.meters.specs.declared.alarms.SetRefusal.{SetRefusal}
use Rattle.meters.specs.declared.alarms.SetRefusal.TheVariants as not_set
use Rattle.meters.specs.declared.gauges.AdvanceRefusal.{AdvanceRefusal}
use Rattle.meters.specs.declared.gauges.AdvanceRefusal.TheVariants as not_advanced
use Rattle.meters.specs.declared.layout.TheConstants.{SLOTS, LAST_TICK}
use Rattle.meters.specs.declared.rule.Reading.{Reading}

-- One step of the call changed the meters, and this holds of the meters that it found and of those that it left. All
-- other steps of the call are loads.
abbrev pub ChangesOnce : (Reading → Reading → Type 0) → SeatView → SeatView → Type 0
ChangesOnce Holds v w = Does {E = Unit {0}} (λ one. Holds) (λ m n. n ≡ m) v (tt {0} ∷ []) w

-- the call changed nothing: all its steps are loads
abbrev pub ChangesNothing : SeatView → SeatView → Type 0
ChangesNothing v w = Does {E = Unit {0}} (λ one m n. ⊥) (λ m n. n ≡ m) v [] w

-- tick: one step added the amount to the gauge, and left all else
abbrev pub AddsToGauge : ℕ → ℕ → SeatView → SeatView → Type 0
AddsToGauge gauge amount v w = ChangesOnce (λ m n. n ≡ with_tick m gauge amount) v w

-- tick: the gauge was `before` when that step found it, and became the sum with the amount, modulo 2^64
abbrev pub GaugeWas : ℕ → ℕ → ℕ → SeatView → SeatView → Type 0
GaugeWas gauge amount before v w = ChangesOnce (λ m n. (slice_index_or m.gauges gauge 0 ≡ before)
    × (slice_index_or n.gauges gauge 0 ≡ (before + amount) % 2 ^ 64)) v w

-- advance: one step moved the clock on to the next tick, and left all else
abbrev pub MovesClock : SeatView → SeatView → Type 0
MovesClock v w = ChangesOnce (λ m n. n ≡ with_advance m) v w

-- advance: the clock became this tick by that step, and was the tick before it when the step found it
abbrev pub ClockBecame : ℕ → SeatView → SeatView → Type 0
ClockBecame clock v w = ChangesOnce (λ m n. (m.clock + 1 ≡ clock) × (n.clock ≡ clock)) v w

-- advance: why the clock was not moved on. Spent: it was the last tick at a moment of the call. Lost: another end moved
-- it on during the call. At one moment it was lower, and at a later one it was this tick.
abbrev pub WhyNotAdvanced : SeatView → AdvanceRefusal → SeatView → Type 0
WhyNotAdvanced v not_advanced.Spent w = AtSomeMoment v w (λ m. m.clock ≡ LAST_TICK)
WhyNotAdvanced v (not_advanced.Lost clock) w = AtTwoMoments v w
    (λ m later. (m.clock < later.clock) × (later.clock ≡ clock))

-- each slot before this one was taken at a moment of the call, each at a moment of its own
abbrev pub WereTakenBefore : ℕ → SeatView → SeatView → Type 0
WereTakenBefore bound v w = (slot : ℕ) → slot < bound → AtSomeMoment v w (λ m. in_slot m slot ≢ None)

-- try_set: one step set the alarm in this slot, which was empty, and left all else
abbrev pub SetsAlarm : ℕ → Alarm → SeatView → SeatView → Type 0
SetsAlarm slot alarm v w = ChangesOnce (λ m n. (in_slot m slot ≡ None) × (n ≡ with_alarm m slot alarm)) v w

-- try_set: why the alarm was not set. NoRoom: each of the 16 slots was taken at a moment of the call. Lost: the slots
-- before this one were, and another end took this one during the call: it was empty at one moment, and taken later.
abbrev pub WhyNotSet : SeatView → SetRefusal → SeatView → Type 0
WhyNotSet v not_set.NoRoom w = WereTakenBefore SLOTS v w
WhyNotSet v (not_set.Lost slot) w = (slot < SLOTS) × WereTakenBefore slot v w
    × AtTwoMoments v w (λ m later. (in_slot m slot ≡ None) × (in_slot later slot ≢ None))

-- cancel: one step took the alarm out of this slot, which had it, as cancelled, and left all else
abbrev pub CancelsAlarm : ℕ → Alarm → SeatView → SeatView → Type 0
CancelsAlarm slot alarm v w = ChangesOnce
    (λ m n. (in_slot m slot ≡ Some alarm) × (n ≡ with_cancelled m slot alarm)) v w

-- cancel: whether the slot had the alarm, at a moment of the call
abbrev pub SlotHad : ℕ → Alarm → Bool → SeatView → SeatView → Type 0
SlotHad slot alarm true v w = AtSomeMoment v w (λ m. in_slot m slot ≡ Some alarm)
SlotHad slot alarm false v w = AtSomeMoment v w (λ m. in_slot m slot ≢ Some alarm)

-- the alarm of a slot, which was due, was taken out as fired, and all else was left
abbrev pub Fires : ℕ × Alarm → Reading → Reading → Type 0
Fires (slot, alarm) m n =
    (in_slot m slot ≡ Some alarm) × (alarm.due ≤ m.clock) × (n ≡ with_fired m slot alarm)

-- the alarms that were fired, each with its slot, by the answers of the slots from this one on
abbrev pub firings : ℕ → List (Option Alarm) → List (ℕ × Alarm)
firings slot [] = []
firings slot (None ∷ answers) = firings (slot + 1) answers
firings slot (Some alarm ∷ answers) = (slot, alarm) ∷ firings (slot + 1) answers

-- Nothing was to be fired in the slot at this clock. At a moment of the call the clock had reached it, and no alarm in
-- the slot was due at it. Or another end changed the slot after such a moment, during the call.
abbrev pub HasNoneDue : ℕ → ℕ → SeatView → SeatView → Type 0
HasNoneDue clock slot v w = AtSomeMoment v w (λ m. (clock ≤ m.clock)
    × ((alarm : Alarm) → in_slot m slot ≡ Some alarm → clock < alarm.due))
    ⊎ AtTwoMoments v w (λ m later. (clock ≤ m.clock) × (in_slot later slot ≢ in_slot m slot))

-- due, take_due: The alarms were fired, in the order of their slots, each by one step, and all else was left. All were
-- due at a clock that the meters had at a moment of the call. In each other slot nothing was to be fired at this clock.
pub record FiresDue (alarms : List Alarm) (v w : SeatView) : Type 0 where
  pub clock : ℕ
  pub clock_was : AtSomeMoment v w (λ m. m.clock ≡ clock)
  pub due : AllByRecursion (λ alarm. alarm.due ≤ clock) alarms
  -- for each slot the alarm that was fired there, or none
  pub answers : List (Option Alarm)
  pub all_slots : length answers ≡ SLOTS
  pub alarms_are : alarms ≡ standing answers
  pub fired : Does Fires (λ m n. n ≡ m) v (firings 0 answers) w
  pub others : (slot : ℕ) → slot < SLOTS → slice_index_or answers slot None ≡ None → HasNoneDue clock slot v w

-- no step of the call changed the number of ends
pub record KeepsEnds (v w : SeatView) : Type 0 where
  pub steps : List (Step Reading)
  pub adds : ExtendsTrace v steps w
  pub kept : AllByRecursion (λ step. step.next.ends ≡ step.then.ends) steps

-- One step of the call changed the number of ends, and this holds of the number that it found and of the one that it
-- left. No other step of the call changed the number.
pub record ChangesEnds (Counts : ℕ → ℕ → Type 0) (v w : SeatView) : Type 0 where
  pub before : List (Step Reading)
  pub step : Step Reading
  pub after : List (Step Reading)
  pub adds : ExtendsTrace v (before ++ step ∷ after) w
  pub counts : Counts step.then.ends step.next.ends
  pub others : AllByRecursion (λ other. other.next.ends ≡ other.then.ends) (before ++ after)

-- split: one step made the number of ends one more
abbrev pub CountsOneMore : SeatView → SeatView → Type 0
CountsOneMore v w = ChangesEnds (λ was now. now ≡ was + 1) v w

-- join: one step made the number of ends one less
abbrev pub CountsOneLess : SeatView → SeatView → Type 0
CountsOneLess v w = ChangesEnds (λ was now. was ≡ now + 1) v w

-- join: the end with all that both ends had, before the step that counts one end less
abbrev pub with_all_of : SeatView → SeatView → SeatView
with_all_of v u = both did_both v u

-- join: both ends were of the same meters, and the end has then seen each step that either had seen
pub record HasSeenBoth (v u w : SeatView) : Type 0 where
  pub first : w.first ≡ v.first
  pub other_first : u.first ≡ v.first
  pub one : Begins v.course w.course
  pub other : Begins u.course w.course
