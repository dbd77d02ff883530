-- The effects of the calls for C on the handles of queues. An empty handle holds None.
use Rattle.std.specs.Prelude.{◌≡◌, ◌⊎◌, ◌≤◌, ◌<◌, ℕ, ℤ, pos, List, length, Result, MatchResult, Option, Some}
use Rattle.bindings.specs.Codes.{SynthAnswer, ShortBuffer, code_of_claim, head_of_claim, tail_of_claim, code_of_take}
use Rattle.bindings.specs.Codes.{tail_of_take, code_of_some, tail_of_some, IsAnswer, IsCodeAlone}
use Rattle.bindings.specs.QueueParts.{ClaimRefusal, TakeRefusal, SynthClosed, PutPart, TookPart, TookLinePart}
use Rattle.bindings.specs.QueueParts.{TookSomePart}
use Rattle.bindings.specs.Handles.{HeldQueue, Payload, Queue, Answered, WasEnded}
use Rattle.bindings.specs.QueueHeld.{AtSize, places_of, EndedHeld}

-- the report of a put: the code, and the positions in the answer
abbrev pub ReportsPut : Result ℕ ClaimRefusal → SynthAnswer → Type 0
ReportsPut answer = IsAnswer (code_of_claim answer) (head_of_claim answer) (tail_of_claim answer)

-- the library's `try_put` was called, and its answer is reported
abbrev pub WasPut : HeldQueue → List ℕ → Option HeldQueue → SynthAnswer → Type 0
WasPut x items new reported =
    Answered (λ answer. AtSize (PutPart items answer)) (λ answer. ReportsPut answer reported) x new

-- the report of a taking: the item or the count, which is written, or the code and the tail of the refusal
abbrev pub ReportsTake : Result ℕ TakeRefusal → ℕ → ℕ → SynthAnswer → Type 0
ReportsTake answer old new reported = MatchResult answer
    (λ x. (new ≡ x) × IsCodeAlone (pos 0) reported)
    (λ r. (new ≡ old) × IsAnswer (code_of_take r) 0 (tail_of_take r) reported)

-- the library's `try_take` was called, and its answer is reported
abbrev pub WasTaken : HeldQueue → ℕ → ℕ → Option HeldQueue → SynthAnswer → Type 0
WasTaken x old_item item new reported =
    Answered (λ answer. AtSize (TookPart answer)) (λ answer. ReportsTake answer old_item item reported) x new

-- the library's `try_take_line` was called, and its answer is reported, with the number of items in the line
abbrev pub WasLineTaken : HeldQueue → List ℕ → List ℕ → ℕ → ℕ → Option HeldQueue → SynthAnswer → Type 0
WasLineTaken x old_line line old_count count new reported =
    Answered (λ answer. AtSize (TookLinePart old_line line answer))
    (λ answer. ReportsTake answer old_count count reported) x new

-- the report of takings of one item each: the code, and the tail in the refusal
abbrev pub ReportsSome : ℕ → Option TakeRefusal → SynthAnswer → Type 0
ReportsSome count refusal = IsAnswer (code_of_some count refusal) 0 (tail_of_some refusal)

-- items were taken one by one into the buffer, and the reason why no more were taken is reported
abbrev pub WasTakenUpTo : HeldQueue → List ℕ → List ℕ → ℕ → Option HeldQueue → SynthAnswer → Type 0
WasTakenUpTo x old_items items count new reported =
    Answered (λ refusal. AtSize (TookSomePart old_items items (count, refusal)))
    (λ refusal. ReportsSome count refusal reported)
    x new

-- the buffer has fewer places than the queue, and nothing happened; or the taking of a line is reported
abbrev pub TakesLine : HeldQueue → List ℕ → List ℕ → ℕ → ℕ → Option HeldQueue → SynthAnswer → Type 0
TakesLine x old_line line old_count count new reported =
    (IsCodeAlone ShortBuffer reported × (length old_line < places_of x) × (new ≡ Some x) × (line ≡ old_line)
    × (count ≡ old_count))
    ⊎ ((places_of x ≤ length old_line) × WasLineTaken x old_line line old_count count new reported)

-- the buffer has no room, and nothing happened; or takings of one item each are reported
abbrev pub TakesSome : HeldQueue → List ℕ → List ℕ → ℕ → ℕ → Option HeldQueue → SynthAnswer → Type 0
TakesSome x old_items items old_count count new reported =
    (IsCodeAlone ShortBuffer reported × (length old_items ≡ 0) × (new ≡ Some x) × (items ≡ old_items)
    × (count ≡ old_count))
    ⊎ ((0 < length old_items) × WasTakenUpTo x old_items items count new reported)

-- the buffer has fewer places than the queue, and nothing happened; or the outcome of the close is reported
abbrev pub WasClosed : HeldQueue → List ℕ → List ℕ → Option Payload → SynthClosed → SynthClosed → ℤ → Type 0
WasClosed x old_items items new old reported code =
    ((code ≡ ShortBuffer) × (length old_items < places_of x) × (new ≡ Some (Queue x)) × (items ≡ old_items)
    × (reported ≡ old))
    ⊎ ((places_of x ≤ length old_items) × WasEnded Queue (λ outcome. EndedHeld old_items items outcome x)
    (λ c t. t ≡ c) new old reported code)
