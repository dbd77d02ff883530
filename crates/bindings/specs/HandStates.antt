-- Stops, starts, parks, signals and deliveries of a hand, and their reports to C.
use Rattle.std.specs.Prelude.{◌≡◌, ◌⊎◌, ◌≤◌, ◌<◌, ℕ, ℤ, pos, Bool, true, false, Result, Ok, Err, MatchResult, Option}
use Rattle.thread_table.specs.Answers.{StoppedNow, StartAnswer, ParkAnswer, SignalAnswer, DeliverAnswer, IsPending}
use Rattle.event_theory.specs.Numbers.{u32_values}
pub use Rattle.thread_table.specs.declared.states.Lost.{Lost}
pub use Rattle.thread_table.specs.declared.states.Started.{Started}
use Rattle.thread_table.specs.declared.states.Signalled.{Signalled}
use Rattle.thread_table.specs.declared.states.Started.TheVariants as started
use Rattle.thread_table.specs.declared.states.Signalled.TheVariants as signalled
use Rattle.bindings.specs.HandHeld.{view_of, call_of, has, HeldHand, IsKept}
use Rattle.bindings.specs.Codes.{Done, BadNumber, NotHeld}
use Rattle.bindings.specs.Handles.{Answered, Writes, Some}
use Rattle.bindings.specs.declared.hand.states.SynthState.{SynthState}

-- `stop` gave this answer, whether the stop bit was clear
abbrev pub WasStopped : ℕ → Bool → HeldHand → HeldHand → Type 0
WasStopped element was_clear x y =
    IsKept x y × StoppedNow (call_of x.hand) (view_of x.hand) element was_clear (view_of y.hand)

-- `try_start` gave this answer
abbrev pub WasStarted : ℕ → Result Started Lost → HeldHand → HeldHand → Type 0
WasStarted element answer x y =
    IsKept x y × StartAnswer (call_of x.hand) (view_of x.hand) element answer (view_of y.hand)

-- `try_park` gave this answer
abbrev pub WasParked : ℕ → Result Bool Lost → HeldHand → HeldHand → Type 0
WasParked element answer x y =
    IsKept x y × ParkAnswer (call_of x.hand) (view_of x.hand) element answer (view_of y.hand)

-- `signal` gave this answer
abbrev pub WasSignalled : ℕ → ℕ → Signalled → HeldHand → HeldHand → Type 0
WasSignalled element signal answer x y =
    IsKept x y × SignalAnswer (call_of x.hand) (view_of x.hand) element signal answer (view_of y.hand)

-- `try_deliver` gave this answer
abbrev pub WereDelivered : ℕ → Result ℕ Lost → HeldHand → HeldHand → Type 0
WereDelivered element answer x y =
    IsKept x y × DeliverAnswer (call_of x.hand) (view_of x.hand) element answer (view_of y.hand)

-- the number that reports the effect of a start to C
abbrev pub number_of_start : Started → ℕ
number_of_start started.NotStopped = 0
number_of_start started.Cleared = 1
number_of_start started.Held = 2

-- the signal was not pending before
abbrev pub is_raised : Signalled → Bool
is_raised signalled.Raised = true
is_raised signalled.Merged = false

-- this code, with word 0
abbrev pub IsStateCode : ℤ → SynthState → Type 0
IsStateCode code reported = (reported.code ≡ code) × (reported.word ≡ 0)

-- the report of `Lost`: the code 6, and the state word that was found
abbrev pub ReportsLost : Lost → SynthState → Type 0
ReportsLost lost reported = (reported.code ≡ pos 6) × (reported.word ≡ lost.seen)

-- the state word in a refusal has 32 bits
abbrev pub IsFitState : {X : Type 0} → Result X Lost → Type 0
IsFitState (Ok x) = Unit {0}
IsFitState (Err lost) = lost.seen < u32_values

-- the report of a start: its effect, which is written, or the state word that was found
abbrev pub ReportsStart : Result Started Lost → ℕ → ℕ → SynthState → Type 0
ReportsStart answer old new reported = MatchResult answer (λ s. (new ≡ number_of_start s) × IsStateCode Done reported)
    (λ lost. (new ≡ old) × ReportsLost lost reported)

-- the report of a park: whether the element is parked, which is written, or the state word that was found
abbrev pub ReportsPark : Result Bool Lost → Bool → Bool → SynthState → Type 0
ReportsPark answer old new reported = MatchResult answer (λ b. (new ≡ b) × IsStateCode Done reported)
    (λ lost. (new ≡ old) × ReportsLost lost reported)

-- the report of a delivery: the signals as bits 0 to 15, which are written, or the state word that was found
abbrev pub ReportsDelivery : Result ℕ Lost → ℕ → ℕ → SynthState → Type 0
ReportsDelivery answer old new reported = MatchResult answer (λ mask. (mask < 65536) × (new ≡ mask)
    × IsStateCode Done reported)
    (λ lost. (new ≡ old) × ReportsLost lost reported)

-- the effect of `stop`, by its code
abbrev pub IsStopCall : ℕ → Bool → Bool → ℤ → HeldHand → Option HeldHand → Type 0
IsStopCall element = Writes (element < 64) (64 ≤ element) (WasStopped element)

-- the effect of `try_start`
abbrev pub IsStartCall : ℕ → ℕ → ℕ → SynthState → HeldHand → Option HeldHand → Type 0
IsStartCall element old_number number reported x new =
    (IsStateCode BadNumber reported × (64 ≤ element) × (new ≡ Some x) × (number ≡ old_number))
    ⊎ ((element < 64)
    × Answered (WasStarted element) (λ answer. ReportsStart answer old_number number reported) x new)

-- the effect of `try_park`
abbrev pub IsParkCall : ℕ → Bool → Bool → SynthState → HeldHand → Option HeldHand → Type 0
IsParkCall element old_answer is reported x new =
    (IsStateCode BadNumber reported × (64 ≤ element) × (new ≡ Some x) × (is ≡ old_answer))
    ⊎ (IsStateCode NotHeld reported × (element < 64) × (has (view_of x.hand) element ≡ false) × (new ≡ Some x)
    × (is ≡ old_answer))
    ⊎ ((element < 64) × (has (view_of x.hand) element ≡ true)
    × Answered (WasParked element) (λ answer. ReportsPark answer old_answer is reported) x new)

-- the effect of `signal`, by its code
abbrev pub IsSignalCall : ℕ → ℕ → Bool → Bool → ℤ → HeldHand → Option HeldHand → Type 0
IsSignalCall element signal old_answer is code x new =
    ((code ≡ BadNumber) × ((64 ≤ element) ⊎ (16 ≤ signal)) × (new ≡ Some x) × (is ≡ old_answer))
    ⊎ ((code ≡ Done) × (element < 64) × (signal < 16) × (y : HeldHand) × (new ≡ Some y) × (answer : Signalled)
    × (is ≡ is_raised answer) × WasSignalled element signal answer x y)

-- the effect of `try_deliver`
abbrev pub IsDeliverCall : ℕ → ℕ → ℕ → SynthState → HeldHand → Option HeldHand → Type 0
IsDeliverCall element old_signals signals reported x new =
    (IsStateCode BadNumber reported × (64 ≤ element) × (new ≡ Some x) × (signals ≡ old_signals))
    ⊎ (IsStateCode NotHeld reported × (element < 64) × (has (view_of x.hand) element ≡ false) × (new ≡ Some x)
    × (signals ≡ old_signals))
    ⊎ ((element < 64) × (has (view_of x.hand) element ≡ true)
    × Answered (WereDelivered element) (λ answer. ReportsDelivery answer old_signals signals reported) x new)

-- `pending` gave these signals
abbrev pub HasPending : ℕ → ℕ → HeldHand → HeldHand → Type 0
HasPending element signals x y = IsKept x y × IsPending (view_of x.hand) element signals (view_of y.hand)

-- the effect of a read of the pending signals, by its code
abbrev pub ReadPending : ℕ → ℕ → ℕ → ℤ → HeldHand → Option HeldHand → Type 0
ReadPending element = Writes (element < 64) (64 ≤ element) (HasPending element)
