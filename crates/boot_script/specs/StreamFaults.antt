-- How reading ends, the causes of read and write faults, and streams that were let go. `answers`, `fails` and `gone`
-- describe single calls on a stream.
use Rattle.std.specs.Prelude.{◌≡◌, ◌≢◌, ◌⊎◌, ◌<◌, ◌≤◌, ◌+◌, ℕ, List, [], ◌∷◌, length, All, Result, Ok, Err}
use Rattle.std.specs.IoError.{error_kind}
use Rattle.std.specs.declared.io.Error.{Error}
use Rattle.std.specs.declared.io.ErrorKind.TheVariants.{Interrupted}

-- calls of read with these answers, the last one first, lead from one reader to the other
abbrev pub Calls : {R : Type 0} → (R → Result ℕ Error → R → Type 0) → List (Result ℕ Error) → R → R → Type 0
Calls answers [] old new = old ≡ new
Calls {R} answers (last ∷ calls) old new = (between : R) × Calls answers calls old between × answers between last new

-- how many bytes were read by calls with these answers
abbrev pub bytes_of : List (Result ℕ Error) → ℕ
bytes_of [] = 0
bytes_of (Ok n ∷ calls) = bytes_of calls + n
bytes_of (Err error ∷ calls) = bytes_of calls

-- reading goes on after a call that read a byte or more, and after one that was interrupted
abbrev pub GoesOn : Result ℕ Error → Type 0
GoesOn (Ok n) = n ≢ 0
GoesOn (Err error) = error_kind error ≡ Interrupted

-- reading went on after each of these calls, and they read no more than a script may have
abbrev pub WentOn : List (Result ℕ Error) → Type 0
WentOn calls = All GoesOn calls × (bytes_of calls ≤ 65536)

-- this call was the last; fewer than 131,072 calls came before it, and `WentOn` holds of them
abbrev pub EndsWith :
    {R : Type 0} → (R → Result ℕ Error → R → Type 0) → Result ℕ Error → List (Result ℕ Error) → R → R → Type 0
EndsWith answers last calls old new = Calls answers (last ∷ calls) old new × WentOn calls × (length calls < 131072)

-- the last call returned an error other than Interrupted
abbrev pub HasFailed : {R : Type 0} → (R → Result ℕ Error → R → Type 0) → R → R → Type 0
HasFailed answers old new =
    (calls : List (Result ℕ Error)) × (error : Error) × EndsWith answers (Err error) calls old new
    × (error_kind error ≢ Interrupted)

-- there were 131,072 calls of read, interrupted ones counted, and reading would go on
abbrev pub WasCalledMost : {R : Type 0} → (R → Result ℕ Error → R → Type 0) → R → R → Type 0
WasCalledMost answers old new =
    (calls : List (Result ℕ Error)) × Calls answers calls old new × WentOn calls × (length calls ≡ 131072)

-- the cause of a read fault: the reader failed, or the limit of 131,072 calls was reached
abbrev pub IsReadFault : {R : Type 0} → (R → Result ℕ Error → R → Type 0) → R → R → Type 0
IsReadFault answers old new = HasFailed answers old new ⊎ WasCalledMost answers old new

-- `n` bytes were read, and the last call found the end
abbrev pub HasEnded : {R : Type 0} → (R → Result ℕ Error → R → Type 0) → ℕ → R → R → Type 0
HasEnded answers n old new =
    (calls : List (Result ℕ Error)) × EndsWith answers (Ok 0) calls old new × (n ≡ bytes_of calls)

-- `n` bytes were read, which is more than a script may have, and the last call read the first byte too many
abbrev pub IsTooMuch : {R : Type 0} → (R → Result ℕ Error → R → Type 0) → ℕ → R → R → Type 0
IsTooMuch answers n old new =
    (calls : List (Result ℕ Error)) × (more : ℕ) × EndsWith answers (Ok more) calls old new
    × (n ≡ bytes_of calls + more) × (65536 < n)

-- reading has ended without a read fault, and `n` bytes were read
abbrev pub HasRead : {R : Type 0} → (R → Result ℕ Error → R → Type 0) → ℕ → R → R → Type 0
HasRead answers n old new = HasEnded answers n old new ⊎ IsTooMuch answers n old new

-- the cause of a write fault: the last call on the writer returned an error
abbrev pub IsWriteFault : {W : Type 0} → (W → W → Type 0) → W → Type 0
IsWriteFault {W} fails new = (before : W) × fails before new

-- a stream was let go, and this holds of it as it then was
abbrev pub LetGo : {S : Type 0} → (S → Type 0) → (S → Type 0) → Type 0
LetGo {S} gone holds = (last : S) × gone last × holds last
