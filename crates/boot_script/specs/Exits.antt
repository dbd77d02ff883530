-- How a program ends that reads a list of events: its exit status, its words for standard error, and what it wrote.
use Rattle.std.specs.Prelude.{◌≡◌, ◌≢◌, ◌⊎◌, ℕ, List, [], ◌++◌, codes, Option, Result, Ok, Err, IfErr, IfSome, OnOk}
use Rattle.std.specs.declared.io.Error.{Error}
use Rattle.std.specs.Io.KnownBytes.{Appends, Keeps}
use Rattle.event_theory.specs.declared.event.Event.{Event}
use Rattle.boot_script.specs.declared.exit.Exit.{Exit}
use Rattle.boot_script.specs.declared.fault.ScriptFault.{ScriptFault}
use Rattle.boot_script.specs.declared.outcome.Replayed.{Replayed}
use Rattle.boot_script.specs.declared.outcome.Replayed.TheVariants.{AllAllowed, Refused}
use Rattle.boot_script.specs.declared.outcome.ReplayFault.{ReplayFault}
use Rattle.boot_script.specs.declared.outcome.ReplayFault.TheVariants.{Script, Memory, Read, Write}
use Rattle.boot_script.specs.Printed.{end_of_line, replay_fault_text}
use Rattle.boot_script.specs.Replays.{IsReplayFault}
use Rattle.boot_script.specs.Scripts.{text_events}
use Rattle.boot_script.specs.StreamFaults.{IsReadFault, IsWriteFault, LetGo}

-- the words for standard error if there is no memory
abbrev pub no_memory_words : List ℕ
no_memory_words = codes "no memory" ++ end_of_line

-- the exit status of a replay
abbrev pub exit_code_of : Result Replayed ReplayFault → ℕ
exit_code_of (Ok AllAllowed) = 0
exit_code_of (Ok (Refused line refusal)) = 1
exit_code_of (Err (Script fault)) = 1
exit_code_of (Err Memory) = 3
exit_code_of (Err Read) = 5
exit_code_of (Err Write) = 5

-- the words for standard error: none if the replay was printed, else the line that names the fault
abbrev pub words_of : Result Replayed ReplayFault → List ℕ
words_of (Ok replayed) = []
words_of (Err fault) = replay_fault_text fault ++ end_of_line

-- the exit has this status; if the error stream took all words, exactly these words were appended to it
abbrev pub IsExit : Exit → ℕ → List ℕ → Option (List ℕ) → Option (List ℕ) → Type 0
IsExit exit status words old new = (exit.status ≡ status) × OnOk exit.reported (Appends old new words)

-- a read or write fault of a replay has its cause in the calls on the streams
abbrev pub HasCause : {R W : Type 0} → (R → Result ℕ Error → R → Type 0) → (W → W → Type 0)
    → Result Replayed ReplayFault → R → R → W → Type 0
HasCause answers fails answer old new written = IfErr answer (λ fault.
    (fault ≡ Read → IsReadFault answers old new) × (fault ≡ Write → IsWriteFault fails written))

-- the error stream was let go with exactly these words appended to it, or after a call on it that returned an error
abbrev pub HasReported : {E : Type 0} → (E → Type 0) → (E → E → Type 0) → (E → Option (List ℕ)) → List ℕ → E → Type 0
HasReported gone fails contents words errors =
    LetGo gone (λ last. Appends (contents errors) (contents last) words ⊎ IsWriteFault fails last)

-- what a program prints for what a text says and the answer of its replay: from old to new it is appended
abbrev pub Prints : Type 1
Prints = Result (ℕ × List (ℕ × Event)) ScriptFault → Replayed → Option (List ℕ) → Option (List ℕ) → Type 0

-- the answer is correct for the text; if it is no fault, exactly what the program prints for it is appended
abbrev pub Answers : Prints → Result (ℕ × List (ℕ × Event)) ScriptFault → Result Replayed ReplayFault
    → Option (List ℕ) → Option (List ℕ) → Type 0
Answers prints said (Ok replayed) old new = prints said replayed old new
Answers prints said (Err fault) old new = IsReplayFault said fault

-- after a fault other than `Write` nothing was written
abbrev pub IsUnwritten : Result Replayed ReplayFault → Option (List ℕ) → Option (List ℕ) → Type 0
IsUnwritten (Ok replayed) old new = Unit {0}
IsUnwritten (Err fault) old new = fault ≢ Write → Keeps old new

-- the answer is correct for the bytes that were read, if known; after a fault other than `Write` nothing was written
abbrev pub AnswersInput : Prints → Option (List ℕ) → Result Replayed ReplayFault
    → Option (List ℕ) → Option (List ℕ) → Type 0
AnswersInput prints known answer old new =
    IfSome known (λ bytes. Answers prints (text_events bytes) answer old new) × IsUnwritten answer old new
