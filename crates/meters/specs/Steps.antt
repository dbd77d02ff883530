-- The result of each step for its end: its entry, and what the end has done then.
use Rattle.std.specs.Prelude.{◌≡◌, ◌≢◌, ◌+◌, ◌≤◌, ℕ, [], ◌∷◌, ◌++◌, Option, Some, filter_map}
use Rattle.event_theory.specs.declared.alarm.Alarm.{Alarm}
use Rattle.atomic_table.specs.Seated.{TableId}
use Rattle.atomic_table.specs.Table.{Me, Step}
use Rattle.atomic_table.specs.declared.shared.Seat.{Seat}
use Rattle.table_theory.specs.declared.views.AbsState.{AbsState}
use Rattle.table_theory.specs.Ledgers.{change, IsValidView, Looked, Performed}
use Rattle.table_theory.specs.Plays.{Stays}
use Rattle.table_theory.specs.Seating.{IsSame}
use Rattle.meters.specs.Layout.{gauge_word, clock_word, slot_word, width, word_of}
use Rattle.meters.specs.declared.rule.Reading.{Reading}
use Rattle.meters.specs.Changes.{with_tick, with_advance, with_alarm, with_fired, with_cancelled}
use Rattle.meters.specs.Own.{SeatView, of_meters}
use Rattle.meters.specs.Words.{IsInRange, Fits}
use Rattle.meters.specs.Answers.{Visit, entries_of, IsVisit, gave}

-- an end that exists can make a step on the words of its table
abbrev pub CanStep : TableId → Seat Unit SeatView → Type 0
CanStep table seat = (seat.table_id ≡ table) × (width ≤ table.words) × (1 ≤ seat.me.0.member.ends)

-- the end made a step: it is the same end, what it holds stays, and its list is true
abbrev pub HasStepped : Seat Unit SeatView → Seat Unit SeatView → Type 0
HasStepped old new = IsSame old new × (new.me.1 ≡ old.me.1) × IsValidView of_meters new.me.0

-- the gauge was found at this number, and ticked by this amount
abbrev pub WasTicked : SeatView → ℕ → ℕ → ℕ → SeatView → Type 0
WasTicked v gauge amount found w = (m : AbsState Reading)
    × Performed v (change (gauge_word gauge) found m (with_tick m.object gauge amount) ∷ [])
    (record v.own { ticks = v.own.ticks ++ record { gauge = gauge; amount = amount } ∷ [] }) w

-- the result of adding to a gauge
abbrev pub ticks : Step Unit → Me Unit SeatView → ℕ → Me Unit SeatView → Type 0
ticks st m r m' = Stays (IsValidView of_meters) m m'
    × ((gauge : ℕ) → st.word ≡ gauge_word gauge → WasTicked m.0 gauge st.first r m'.0)

-- the clock was found at this tick, and moved on by one
abbrev pub WasAdvanced : SeatView → ℕ → SeatView → Type 0
WasAdvanced v clock w = (m : AbsState Reading)
    × Performed v (change clock_word clock m (with_advance m.object) ∷ [])
    (record v.own { advances = v.own.advances ++ (clock + 1) ∷ [] }) w

-- the result of an exchange of the clock: it was moved on if the expected tick was found, else only loaded
abbrev pub advances : Step Unit → Me Unit SeatView → ℕ → Me Unit SeatView → Type 0
advances st m r m' = Stays (IsValidView of_meters) m m'
    × (r ≡ st.first → WasAdvanced m.0 st.first m'.0)
    × (r ≢ st.first → Looked m.0 st.word r m'.0)

-- the word is that of this slot, and the bits are those of this alarm, which is in range
pub record IsWordOf (slot : ℕ) (alarm : Alarm) (word bits : ℕ) : Type 0 where
  pub place : word ≡ slot_word slot
  pub range : IsInRange alarm
  pub bits_are : bits ≡ word_of (Some alarm)

-- the slot was found empty, and the alarm was set in it
abbrev pub WasSet : SeatView → ℕ → Alarm → SeatView → Type 0
WasSet v slot alarm w = (m : AbsState Reading)
    × Performed v (change (slot_word slot) 0 m (with_alarm m.object slot alarm) ∷ [])
    (record v.own { set = v.own.set ++ alarm ∷ [] }) w

-- The result of an exchange of a slot's word: if it found the expected number, `Was` holds of the slot and of the alarm
-- that has the bits; else the slot was only loaded.
abbrev pub exchanges : (SeatView → ℕ → Alarm → SeatView → Type 0) → ℕ → Step Unit → Me Unit SeatView → ℕ
    → Me Unit SeatView → Type 0
exchanges Was bits st m r m' = Stays (IsValidView of_meters) m m'
    × (r ≡ st.first → (slot : ℕ) (alarm : Alarm) → IsWordOf slot alarm st.word bits → Was m.0 slot alarm m'.0)
    × (r ≢ st.first → Looked m.0 st.word r m'.0)

-- the result of the exchange that sets an alarm
abbrev pub sets : Step Unit → Me Unit SeatView → ℕ → Me Unit SeatView → Type 0
sets st m r m' = exchanges WasSet st.second st m r m'

-- the alarm was found in this slot, and taken out as fired
abbrev pub WasFired : SeatView → ℕ → Alarm → SeatView → Type 0
WasFired v slot alarm w = (m : AbsState Reading)
    × Performed v (change (slot_word slot) (word_of (Some alarm)) m (with_fired m.object slot alarm) ∷ [])
    (record v.own { fired = v.own.fired ++ alarm ∷ [] }) w

-- the result of the exchange that fires an alarm
abbrev pub fires : Step Unit → Me Unit SeatView → ℕ → Me Unit SeatView → Type 0
fires st m r m' = exchanges WasFired st.first st m r m'

-- the alarm was found in this slot, and taken out as cancelled
abbrev pub WasCancelled : SeatView → ℕ → Alarm → SeatView → Type 0
WasCancelled v slot alarm w = (m : AbsState Reading)
    × Performed v (change (slot_word slot) (word_of (Some alarm)) m (with_cancelled m.object slot alarm) ∷ [])
    (record v.own { cancelled = v.own.cancelled ++ alarm ∷ [] }) w

-- the result of the exchange that cancels an alarm
abbrev pub cancels : Step Unit → Me Unit SeatView → ℕ → Me Unit SeatView → Type 0
cancels st m r m' = exchanges WasCancelled st.first st m r m'

-- the word of this slot was loaded, and is the word of `stood`, which is in range
pub record FoundIn (v : SeatView) (slot : ℕ) (stood : Option Alarm) (w : SeatView) : Type 0 where
  pub looked : Looked v (slot_word slot) (word_of stood) w
  pub fits : Fits stood

-- a number other than the word of `other` was found in the slot
abbrev pub FoundOther : SeatView → ℕ → Option Alarm → SeatView → Type 0
FoundOther v slot other w = (found : ℕ) × Looked v (slot_word slot) found w × (found ≢ word_of other)

-- one slot was visited, and the visit fired this alarm, or none
pub record Gave (v : SeatView) (clock slot : ℕ) (alarm : Option Alarm) (w : SeatView) : Type 0 where
  pub visit : Visit
  pub alarm_is : alarm ≡ gave visit
  pub fits : IsVisit clock visit
  pub made : Performed v (entries_of slot visit)
      (record v.own { fired = v.own.fired ++ filter_map gave (visit ∷ []) }) w
