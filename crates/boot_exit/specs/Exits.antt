-- The exit status of a boot, the words for standard error, and the cause of a failed stream.
use Rattle.std.specs.Prelude.{◌≡◌, ◌⊎◌, ℕ, List, [], ◌++◌, Result, Ok, Err, IfErr}
use Rattle.std.specs.declared.io.Error.{Error}
use Rattle.boot_script.specs.Printed.{end_of_line}
use Rattle.boot_script.specs.StreamFaults.{IsReadFault, IsWriteFault}
use Rattle.synth_kernel.specs.declared.outcome.Ended.{Ended}
use Rattle.synth_kernel.specs.declared.outcome.Ended.TheVariants.{AllEnded, Unfinished}
use Rattle.synth_kernel.specs.declared.outcome.BootFault.{BootFault}
use Rattle.synth_kernel.specs.declared.outcome.BootFault.TheVariants.{Script, Memory, Read, Write}
use Rattle.synth_kernel.specs.Faults.{boot_fault_text}

-- the exit status of a boot
abbrev pub boot_exit_code_of : Result Ended BootFault → ℕ
boot_exit_code_of (Ok AllEnded) = 0
boot_exit_code_of (Ok (Unfinished live)) = 4
boot_exit_code_of (Err (Script fault)) = 1
boot_exit_code_of (Err Memory) = 3
boot_exit_code_of (Err Read) = 5
boot_exit_code_of (Err Write) = 5

-- the words for standard error: none if the output was printed, else the line that names the fault
abbrev pub boot_words_of : Result Ended BootFault → List ℕ
boot_words_of (Ok ended) = []
boot_words_of (Err fault) = boot_fault_text fault ++ end_of_line

-- a read or write fault of a boot has its cause in the calls on the streams
abbrev pub HasBootCause : {R W : Type 0} → (R → Result ℕ Error → R → Type 0) → (W → W → Type 0)
    → Result Ended BootFault → R → R → W → Type 0
HasBootCause answers fails answer old new written = IfErr answer (λ fault.
    (fault ≡ Read → IsReadFault answers old new) × (fault ≡ Write → IsWriteFault fails written))

-- the reader or the writer failed
abbrev pub HasStreamFailed : {R W : Type 0} → (R → Result ℕ Error → R → Type 0) → (W → W → Type 0) → R → R → W → Type 0
HasStreamFailed answers fails old new written = IsReadFault answers old new ⊎ IsWriteFault fails written
