-- The takings of a hand, and their reports to C.
use Rattle.std.specs.Prelude.{◌≡◌, ◌⊎◌, ◌≤◌, ◌<◌, ℕ, ℤ, pos, Result, Ok, Err, MatchResult, Option, Some, None}
use Rattle.thread_table.specs.Wakes.{NotifiedNow, BeforeAnswer}
use Rattle.event_theory.specs.Marks.{wait_ring}
use Rattle.event_theory.specs.Numbers.{u32_values}
use Rattle.thread_table.specs.Answers.{TakeAnswer}
pub use Rattle.thread_table.specs.declared.takings.NextRefusal.{NextRefusal}
use Rattle.thread_table.specs.declared.takings.NextRefusal.TheVariants as nexts
use Rattle.bindings.specs.Codes.{SynthAnswer, Done, BadNumber, IsAnswer, IsCodeAlone, AllWoken}
use Rattle.bindings.specs.HandHeld.{view_of, call_of, HeldHand, IsKept}
use Rattle.bindings.specs.Handles.{Answered, Writes}

-- a taking from this element queue gave this answer
abbrev pub WasTaken : ℕ → Result ℕ NextRefusal → HeldHand → HeldHand → Type 0
WasTaken line answer x y = IsKept x y × TakeAnswer (call_of x.hand) (view_of x.hand) line answer (view_of y.hand)

-- the code of a refused taking
abbrev pub code_of_next : NextRefusal → ℤ
code_of_next nexts.NoneReady = pos 7
code_of_next (nexts.Lost seen) = pos 6

-- the tail that was found, if another hand took first; else 0
abbrev pub tail_of_next : NextRefusal → ℕ
tail_of_next nexts.NoneReady = 0
tail_of_next (nexts.Lost seen) = seen

-- the tail in a refused taking has 32 bits
abbrev pub IsFit : Result ℕ NextRefusal → Type 0
IsFit (Ok element) = Unit {0}
IsFit (Err r) = tail_of_next r < u32_values

-- the report of a taking: the element, which is written, or the code and the tail
abbrev pub ReportsTaking : Result ℕ NextRefusal → ℕ → ℕ → SynthAnswer → Type 0
ReportsTaking answer old new reported = MatchResult answer
    (λ element. (new ≡ element) × IsCodeAlone Done reported)
    (λ r. (new ≡ old) × IsAnswer (code_of_next r) 0 (tail_of_next r) reported)

-- the library's answer to a taking from this element queue is reported
abbrev pub IsTakingCall : ℕ → HeldHand → ℕ → ℕ → Option HeldHand → SynthAnswer → Type 0
IsTakingCall line x old_element element new reported =
    Answered (WasTaken line) (λ answer. ReportsTaking answer old_element element reported) x new

-- the effect of `try_wake`; a wait queue out of range is reported as BadNumber
abbrev pub IsWakingCall : ℕ → HeldHand → ℕ → ℕ → Option HeldHand → SynthAnswer → Type 0
IsWakingCall wait x old_element element new reported =
    (IsCodeAlone BadNumber reported × (16 ≤ wait) × (new ≡ Some x) × (element ≡ old_element))
    ⊎ ((wait < 16) × IsTakingCall (wait_ring wait) x old_element element new reported)

-- `notify` gave this position
abbrev pub WasNotified : ℕ → ℕ → HeldHand → HeldHand → Type 0
WasNotified wait head x y = IsKept x y × NotifiedNow (call_of x.hand) (view_of x.hand) wait head (view_of y.hand)

-- `try_wake_before` gave this answer
abbrev pub WasTriedBefore : ℕ → ℕ → Result (Option ℕ) NextRefusal → HeldHand → HeldHand → Type 0
WasTriedBefore wait head answer x y =
    IsKept x y × BeforeAnswer (call_of x.hand) (view_of x.hand) (wait_ring wait) head answer (view_of y.hand)

-- the tail in a refused taking before a position has 32 bits
abbrev pub IsFitBefore : Result (Option ℕ) NextRefusal → Type 0
IsFitBefore (Ok taken) = Unit {0}
IsFitBefore (Err r) = tail_of_next r < u32_values

-- the report of a taking before a position: the element, which is written, or AllWoken, or the code and the tail
abbrev pub ReportsBefore : Result (Option ℕ) NextRefusal → ℕ → ℕ → SynthAnswer → Type 0
ReportsBefore (Ok None) old new reported = (new ≡ old) × IsCodeAlone AllWoken reported
ReportsBefore (Ok (Some element)) old new reported = (new ≡ element) × IsCodeAlone Done reported
ReportsBefore (Err r) old new reported = (new ≡ old) × IsAnswer (code_of_next r) 0 (tail_of_next r) reported

-- the effect of `notify`, by its code
abbrev pub IsNotifyCall : ℕ → ℕ → ℕ → ℤ → HeldHand → Option HeldHand → Type 0
IsNotifyCall wait = Writes (wait < 16) (16 ≤ wait) (WasNotified wait)

-- the effect of `try_wake_before`
abbrev pub IsBeforeCall : ℕ → ℕ → ℕ → ℕ → SynthAnswer → HeldHand → Option HeldHand → Type 0
IsBeforeCall wait head old_element element reported x new =
    (IsCodeAlone BadNumber reported × (16 ≤ wait) × (new ≡ Some x) × (element ≡ old_element))
    ⊎ ((wait < 16)
    × Answered (WasTriedBefore wait head) (λ answer. ReportsBefore answer old_element element reported) x new)
