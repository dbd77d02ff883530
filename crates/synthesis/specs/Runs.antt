-- What a run wrote, by its answer, and the words for standard error.
use Rattle.std.specs.Prelude.{◌≡◌, ◌≢◌, ℕ, List, ◌++◌, codes, Option, Some, None, Result, Ok, Err, IfSome}
use Rattle.std.specs.Io.KnownBytes.{Keeps}
use Rattle.boot_script.specs.declared.outcome.Replayed.{Replayed}
use Rattle.boot_script.specs.declared.outcome.ReplayFault.{ReplayFault}
use Rattle.boot_script.specs.Exits.{AnswersInput}
use Rattle.boot_script.specs.Printed.{end_of_line}
use Rattle.boot_objects.specs.declared.closing.all.TornDown.{TornDown}
use Rattle.boot_script.specs.Plans.{text_plan}
use Rattle.boot_script.specs.Replays.{IsReplay}
use Rattle.synth_kernel.specs.declared.outcome.Ended as endings
use Rattle.synth_kernel.specs.declared.outcome.BootFault.{BootFault}
use Rattle.synth_kernel.specs.declared.outcome.BootFault.TheVariants as boot_faults
use Rattle.synth_kernel.specs.declared.printing.Booted.{Booted}
use Rattle.synth_kernel.specs.Boots.{RunsOf, CameBackPlain, HasNumbers, IsBoot, IsBootFault}
use Rattle.turn_io.specs.declared.gate.NoGate.{NoGate}

-- the words for standard error if the words of the program are no command
abbrev pub usage_words : List ℕ
usage_words = codes "usage: synthesis replay | synthesis boot P TURNS" ++ end_of_line

-- the answer is correct for the bytes that were read, if known; if the replay was printed, exactly its printed text is
-- appended; after a fault other than `Write` nothing was written
abbrev pub IsReplayOf : Option (List ℕ) → Result Replayed ReplayFault → Option (List ℕ) → Option (List ℕ) → Type 0
IsReplayOf known answer old new = AnswersInput IsReplay known answer old new

-- The answer of a boot on this many processors, with this many turns each, is correct for what was read. If the report
-- was printed, exactly the report is appended, and `booted` has this answer and both numbers; else `booted` is None
abbrev pub BootAnswers : RunsOf NoGate → (TornDown → Type 0) → Option (List ℕ) → ℕ → ℕ
    → Result endings.Ended BootFault → Option (Booted NoGate) → Option (List ℕ) → Option (List ℕ) → Type 0
BootAnswers ran shown read processors turns (Ok ended) (Some booted) old new = (booted.ended ≡ ended)
    × HasNumbers processors turns booted
    × IsBoot (CameBackPlain ran shown processors turns booted.gates.items booted.closed) read ended old new
BootAnswers ran shown read processors turns (Err fault) None old new =
    IfSome read (λ bytes. IsBootFault (text_plan bytes) fault)
BootAnswers ran shown read processors turns answer booted old new = ⊥

-- after a fault of a boot other than `Write` nothing was written
abbrev pub IsBootUnwritten : Result endings.Ended BootFault → Option (List ℕ) → Option (List ℕ) → Type 0
IsBootUnwritten (Ok ended) old new = Unit {0}
IsBootUnwritten (Err fault) old new = fault ≢ boot_faults.Write → Keeps old new

-- the answer of a boot and `booted` are correct for what was read, if known; after a fault other than `Write` nothing
-- was written
abbrev pub IsBootedBy : RunsOf NoGate → (TornDown → Type 0) → Option (List ℕ) → ℕ → ℕ
    → Result endings.Ended BootFault → Option (Booted NoGate) → Option (List ℕ) → Option (List ℕ) → Type 0
IsBootedBy ran shown read processors turns answer booted old new =
    BootAnswers ran shown read processors turns answer booted old new × IsBootUnwritten answer old new
