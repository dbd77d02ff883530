-- What a run of the program printed, and its exit status.
use Rattle.std.specs.Prelude.{◌≡◌, ◌≢◌, ℕ, List, ◌++◌, codes, Option, Result, Ok, Err, IfSome}
use Rattle.std.specs.Io.KnownBytes.{Keeps}
use Rattle.boot_exit.specs.Exits.{boot_exit_code_of}
use Rattle.boot_log.specs.declared.recorder.Recorder.{Recorder}
use Rattle.boot_objects.specs.declared.closing.all.TornDown.{TornDown}
use Rattle.boot_script.specs.Plans.{text_plan}
use Rattle.boot_script.specs.Printed.{end_of_line}
use Rattle.boot_view.specs.declared.command.Command.{Command}
use Rattle.boot_view.specs.Views.{IsPrinted, IsViewed}
use Rattle.processor.specs.Points.{Calls}
use Rattle.synth_kernel.specs.declared.outcome.BootFault.{BootFault}
use Rattle.synth_kernel.specs.declared.outcome.BootFault.TheVariants.{Write}
use Rattle.synth_kernel.specs.declared.outcome.Ended.{Ended}
use Rattle.synth_kernel.specs.declared.printing.Booted.{Booted}
use Rattle.synth_kernel.specs.Boots.{IsBootFault, RunsOf}

-- the words for standard error if the words of the program are no command
abbrev pub usage_words : List ℕ
usage_words = codes "usage: timeline P TURNS [--time | --trace] < SCRIPT" ++ end_of_line

-- The answer of a boot is correct for what was read, if known. If it is no fault, exactly the page of the boot is
-- appended; after a fault other than `Write` nothing was written. `made` holds of all recorders of the boot, which read
-- this clock, `said` holds of what it may say as its first time, and `gone` of what came back
abbrev pub IsViewedBy : {C : Type 0} → RunsOf (Recorder C) → (TornDown → Type 0) → Calls (Recorder C)
    → (List (Recorder C) → Type 0) → (Booted (Recorder C) → Type 0) → C → (ℕ → Type 0) → Command → Option (List ℕ)
    → Result Ended BootFault → Option (List ℕ) → Option (List ℕ) → Type 0
IsViewedBy ran shown T made gone clock said command read (Ok ended) old new =
    IsPrinted ran shown T made gone clock said command read ended old new
IsViewedBy ran shown T made gone clock said command read (Err fault) old new =
    IfSome read (λ bytes. IsBootFault (text_plan bytes) fault) × (fault ≢ Write → Keeps old new)

-- the answer of a boot is correct for what was read, whatever was written
abbrev pub IsViewAnswer : {C : Type 0} → RunsOf (Recorder C) → (TornDown → Type 0) → Calls (Recorder C)
    → (List (Recorder C) → Type 0) → (Booted (Recorder C) → Type 0) → C → (ℕ → Type 0) → Command → Option (List ℕ)
    → Result Ended BootFault → Type 0
IsViewAnswer ran shown T made gone clock said command read (Ok ended) =
    (page : List ℕ) × IsViewed ran shown T made gone clock said command read ended page
IsViewAnswer ran shown T made gone clock said command read (Err fault) =
    IfSome read (λ bytes. IsBootFault (text_plan bytes) fault)

-- the status is the exit status of such a boot of what was read
abbrev pub IsViewStatus : {C : Type 0} → RunsOf (Recorder C) → (TornDown → Type 0) → Calls (Recorder C)
    → (List (Recorder C) → Type 0) → (Booted (Recorder C) → Type 0) → C → (ℕ → Type 0) → Command → Option (List ℕ)
    → ℕ → Type 0
IsViewStatus ran shown T made gone clock said command read status = (answer : Result Ended BootFault)
    × IsViewAnswer ran shown T made gone clock said command read answer × (status ≡ boot_exit_code_of answer)
