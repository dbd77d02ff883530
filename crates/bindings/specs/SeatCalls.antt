-- The effects of the calls for C on the handles of meters. An empty handle holds None.
use Rattle.std.specs.Prelude.{◌≡◌, ◌⊎◌, ◌≤◌, ◌<◌, ℕ, ℤ, Bool, pos, take, map, List, length, Result, MatchResult, Option}
use Rattle.meters.specs.declared.gauges.AdvanceRefusal.TheVariants as advance
use Rattle.meters.specs.declared.alarms.SetRefusal.TheVariants as set
use Rattle.bindings.specs.SeatHeld.{Alarm, AdvanceRefusal, SetRefusal, Metered, HeldSeat, WasTicked, WasAdvanced}
use Rattle.bindings.specs.SeatHeld.{WasSet, WasCancelled, WereFired, WasGauge}
use Rattle.bindings.specs.Codes.{SynthAnswer, Done, ShortBuffer, BadNumber, IsAnswer, IsCodeAlone}
use Rattle.bindings.specs.SeatAlarms.{c_alarm, IsAlarm, IsNoAlarm, IsRestKept, IsBlankFrom}
use Rattle.bindings.specs.Handles.{Answered, Writes, Some}
use Rattle.bindings.specs.declared.seat.SynthMetered.{SynthMetered}
use Rattle.bindings.specs.declared.seat.alarm.SynthAlarm.{SynthAlarm}

-- the effect of `tick`, by its code
abbrev pub IsTickCall : ℕ → ℕ → ℕ → ℕ → ℤ → HeldSeat → Option HeldSeat → Type 0
IsTickCall gauge amount = Writes (gauge < 8) (8 ≤ gauge) (WasTicked gauge amount)

abbrev pub code_of_advance : AdvanceRefusal → ℤ
code_of_advance advance.Spent = pos 4
code_of_advance (advance.Lost clock) = pos 6

abbrev pub head_of_advance : AdvanceRefusal → ℕ
head_of_advance advance.Spent = 0
head_of_advance (advance.Lost clock) = clock

-- the report of a try to move the clock on: the clock, which is written, or the code and the clock of the refusal
abbrev pub ReportsAdvance : Result ℕ AdvanceRefusal → ℕ → ℕ → SynthAnswer → Type 0
ReportsAdvance answer old new reported = MatchResult answer
    (λ clock. (new ≡ clock) × IsCodeAlone Done reported)
    (λ r. (new ≡ old) × IsAnswer (code_of_advance r) (head_of_advance r) 0 reported)

-- the library's `advance` was called, and its answer is reported
abbrev pub IsAdvanceCall : HeldSeat → ℕ → ℕ → Option HeldSeat → SynthAnswer → Type 0
IsAdvanceCall x old_clock clock new reported =
    Answered WasAdvanced (λ answer. ReportsAdvance answer old_clock clock reported) x new

abbrev pub code_of_set : SetRefusal → ℤ
code_of_set set.NoRoom = pos 11
code_of_set (set.Lost slot) = pos 6

abbrev pub head_of_set : SetRefusal → ℕ
head_of_set set.NoRoom = 0
head_of_set (set.Lost slot) = slot

-- the report of a try to set an alarm: the slot, which is written, or the code and the slot of the refusal
abbrev pub ReportsSet : Result ℕ SetRefusal → ℕ → ℕ → SynthAnswer → Type 0
ReportsSet answer old new reported = MatchResult answer
    (λ slot. (new ≡ slot) × IsCodeAlone Done reported)
    (λ r. (new ≡ old) × IsAnswer (code_of_set r) (head_of_set r) 0 reported)

-- the library's `try_set` was called with this alarm, and its answer is reported
abbrev pub SetsAlarm : HeldSeat → SynthAlarm → ℕ → ℕ → Option HeldSeat → SynthAnswer → Type 0
SetsAlarm x alarm old_slot slot new reported = (is : Alarm) × (c_alarm is ≡ alarm)
    × Answered (WasSet is) (λ answer. ReportsSet answer old_slot slot reported) x new

-- the effect of `try_set`: an alarm out of range is reported as BadNumber
abbrev pub IsSetCall : HeldSeat → SynthAlarm → ℕ → ℕ → Option HeldSeat → SynthAnswer → Type 0
IsSetCall x alarm old_slot slot new reported =
    (IsCodeAlone BadNumber reported × IsNoAlarm alarm × (new ≡ Some x) × (slot ≡ old_slot))
    ⊎ (IsAlarm alarm × SetsAlarm x alarm old_slot slot new reported)

-- the effect of `cancel`, by its code
abbrev pub IsCancelCall : ℕ → SynthAlarm → Bool → Bool → ℤ → HeldSeat → Option HeldSeat → Type 0
IsCancelCall slot alarm old_answer answer code x new =
    ((code ≡ BadNumber) × ((16 ≤ slot) ⊎ IsNoAlarm alarm) × (new ≡ Some x) × (answer ≡ old_answer))
    ⊎ ((code ≡ Done) × (slot < 16) × IsAlarm alarm × (is : Alarm) × (c_alarm is ≡ alarm)
    × (y : HeldSeat) × (new ≡ Some y)
    × WasCancelled slot is answer x y)

-- the effect of `due`, by its code: the alarms are at the beginning of the buffer, whose rest is unchanged
abbrev pub IsDueCall : List SynthAlarm → List SynthAlarm → ℕ → ℕ → ℤ → HeldSeat → Option HeldSeat → Type 0
IsDueCall old_alarms alarms old_count count code x new =
    ((code ≡ ShortBuffer) × (length old_alarms < 16) × (new ≡ Some x) × (alarms ≡ old_alarms) × (count ≡ old_count))
    ⊎ ((code ≡ Done) × (16 ≤ length old_alarms) × (fired : List Alarm) × (count ≡ length fired)
    × (take count alarms ≡ map c_alarm fired)
    × IsRestKept count old_alarms alarms × (y : HeldSeat) × (new ≡ Some y) × WereFired fired x y)

-- the report of closed meters: the gauges, the clock and the alarms, with blank places after the alarms
abbrev pub ReportsMetered : Metered → SynthMetered → Type 0
ReportsMetered c reported = (reported.gauges ≡ c.gauges) × (reported.clock ≡ c.clock)
    × (reported.alarms ≡ length c.alarms.items)
    × (take reported.alarms reported.alarm ≡ map c_alarm c.alarms.items) × IsBlankFrom reported.alarms reported.alarm

-- the effect of a read of a gauge, by its code
abbrev pub ReadGauge : ℕ → ℕ → ℕ → ℤ → HeldSeat → Option HeldSeat → Type 0
ReadGauge gauge = Writes (gauge < 8) (8 ≤ gauge) (WasGauge gauge)
