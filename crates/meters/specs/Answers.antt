-- The results of the calls: all entries that a call added, and how their numbers compare.
use Rattle.std.specs.Prelude.{◌≡◌, ◌≢◌, ◌⊎◌, ◌+◌, ◌<◌, ◌≤◌, ℕ, Bool, true, false, List, [], ◌∷◌, ◌++◌, length}
use Rattle.std.specs.Prelude.{filter_map, Option, Some, None}
use Rattle.std.specs.List.{AllByRecursion}
use Rattle.event_theory.specs.declared.alarm.Alarm.{Alarm}
use Rattle.table_theory.specs.declared.views.AbsState.{AbsState}
use Rattle.table_theory.specs.Ledgers.{Step, load, change, ExtendsTrace}
use Rattle.meters.specs.Layout.{gauge_word, clock_word, slot_word, word_of, alarm_in}
use Rattle.meters.specs.declared.layout.TheConstants.{SLOTS, LAST_TICK}
use Rattle.meters.specs.declared.alarms.SetRefusal.{SetRefusal}
use Rattle.meters.specs.declared.alarms.SetRefusal.TheVariants as not_set
use Rattle.meters.specs.declared.gauges.AdvanceRefusal.{AdvanceRefusal}
use Rattle.meters.specs.declared.gauges.AdvanceRefusal.TheVariants as not_advanced
use Rattle.meters.specs.declared.rule.Reading.{Reading}
use Rattle.meters.specs.Changes.{with_tick, with_advance, with_alarm, with_fired, with_cancelled}
use Rattle.meters.specs.Own.{SeatView}

-- one step found this number in the gauge, and added the amount to it
abbrev pub Ticked : SeatView → ℕ → ℕ → ℕ → SeatView → Type 0
Ticked v gauge amount found w =
    (m : AbsState Reading) × ExtendsTrace v (change (gauge_word gauge) found m (with_tick m.object gauge amount) ∷ []) w

-- the word was loaded, and this number found
abbrev pub Loaded : SeatView → ℕ → ℕ → SeatView → Type 0
Loaded v word found w = (m : AbsState Reading) × ExtendsTrace v (load word found m ∷ []) w

-- the clock was loaded, and moved on from the tick that was found to the next one, which is `clock`
abbrev pub AdvancedNow : SeatView → ℕ → SeatView → Type 0
AdvancedNow v clock w = (was : ℕ) × (m n : AbsState Reading) × (clock ≡ was + 1)
    × ExtendsTrace v (load clock_word was m ∷ change clock_word was n (with_advance n.object) ∷ []) w

-- Why the clock was not moved on. Spent: the clock was loaded, and is the last tick. Lost: the clock was loaded, but
-- the exchange found another clock, past the one that was loaded.
abbrev pub NotAdvanced : SeatView → AdvanceRefusal → SeatView → Type 0
NotAdvanced v not_advanced.Spent w = (m : AbsState Reading) × ExtendsTrace v (load clock_word LAST_TICK m ∷ []) w
NotAdvanced v (not_advanced.Lost clock) w = (was : ℕ) × (m n : AbsState Reading) × (was < clock)
    × ExtendsTrace v (load clock_word was m ∷ load clock_word clock n ∷ []) w

-- numbers that were found in slots, each at its moment
abbrev pub Scanned : Type 0
Scanned = List (ℕ × AbsState Reading)

-- the slots from this one on were loaded, in order
abbrev pub scan : ℕ → Scanned → List (Step Reading)
scan slot [] = []
scan slot (found ∷ more) = load (slot_word slot) found.0 found.1 ∷ scan (slot + 1) more

-- each of these slots was found with an alarm
abbrev pub AreTaken : Scanned → Type 0
AreTaken scanned = AllByRecursion (λ found. 0 < found.0) scanned

-- the slots before this one were found taken and this one empty, and then the alarm was set in it
abbrev pub SetNow : SeatView → ℕ → Alarm → SeatView → Type 0
SetNow v slot alarm w = (taken : Scanned) × (m n : AbsState Reading)
    × (length taken ≡ slot) × (slot < SLOTS) × AreTaken taken
    × ExtendsTrace v (scan 0 taken
    ++ load (slot_word slot) 0 m ∷ change (slot_word slot) 0 n (with_alarm n.object slot alarm) ∷ []) w

-- Why an alarm was not set. NoRoom: all 16 slots were found taken. Lost: the slots before this one were found taken and
-- this one empty, but the exchange found an alarm in it.
abbrev pub NotSet : SeatView → SetRefusal → SeatView → Type 0
NotSet v not_set.NoRoom w =
    (taken : Scanned) × (length taken ≡ SLOTS) × AreTaken taken × ExtendsTrace v (scan 0 taken) w
NotSet v (not_set.Lost slot) w = (taken : Scanned) × (other : ℕ) × (m n : AbsState Reading)
    × (length taken ≡ slot) × (slot < SLOTS) × AreTaken taken × (0 < other)
    × ExtendsTrace v (scan 0 taken ++ load (slot_word slot) 0 m ∷ load (slot_word slot) other n ∷ []) w

-- the alarm was found in the slot and cancelled (true), or another number was found there (false)
abbrev pub CancelledNow : SeatView → ℕ → Alarm → Bool → SeatView → Type 0
CancelledNow v slot alarm true w = (m : AbsState Reading)
    × ExtendsTrace v (change (slot_word slot) (word_of (Some alarm)) m (with_cancelled m.object slot alarm) ∷ []) w
CancelledNow v slot alarm false w = (other : ℕ) × (m : AbsState Reading) × (other ≢ word_of (Some alarm))
    × ExtendsTrace v (load (slot_word slot) other m ∷ []) w

-- A visit of a slot by `due`. It finds no alarm, or one that is not due; or one that is due, and fires it; or one that
-- is due, but the exchange then finds another number.
pub data Visit : Type 0 where
  stays : ℕ → AbsState Reading → Visit
  goes : Alarm → AbsState Reading → AbsState Reading → Visit
  went : ℕ → AbsState Reading → ℕ → AbsState Reading → Visit

-- the entries of a visit of this slot
abbrev pub entries_of : ℕ → Visit → List (Step Reading)
entries_of slot (stays found m) = load (slot_word slot) found m ∷ []
entries_of slot (goes alarm m n) = load (slot_word slot) (word_of (Some alarm)) m
    ∷ change (slot_word slot) (word_of (Some alarm)) n (with_fired n.object slot alarm) ∷ []
entries_of slot (went found m other n) = load (slot_word slot) found m ∷ load (slot_word slot) other n ∷ []

-- how the numbers of a visit compare with the clock
abbrev pub IsVisit : ℕ → Visit → Type 0
IsVisit clock (stays found m) = (found ≡ 0) ⊎ (clock < (alarm_in found).due)
IsVisit clock (goes alarm m n) = alarm.due ≤ clock
IsVisit clock (went found m other n) = (0 < found) × ((alarm_in found).due ≤ clock) × (other ≢ found)

-- the entries of visits of the slots from this one on, in order
abbrev pub tour : ℕ → List Visit → List (Step Reading)
tour slot [] = []
tour slot (visit ∷ visits) = entries_of slot visit ++ tour (slot + 1) visits

-- the alarm that a visit fired
abbrev pub gave : Visit → Option Alarm
gave (stays found m) = None
gave (goes alarm m n) = Some alarm
gave (went found m other n) = None

-- The clock was loaded, and then all 16 slots were visited, in order. The alarms are those that the visits fired.
abbrev pub FiredNow : SeatView → List Alarm → SeatView → Type 0
FiredNow v alarms w = (clock : ℕ) × (m : AbsState Reading) × (visits : List Visit) × (length visits ≡ SLOTS)
    × AllByRecursion (IsVisit clock) visits × (alarms ≡ filter_map gave visits)
    × ExtendsTrace v (load clock_word clock m ∷ tour 0 visits) w
