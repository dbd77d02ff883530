-- The cause of the exit status 5 of a boot.
use Rattle.std.proofs.Common.{◌≡◌, inl, inr, ℕ, refl, arith, Result, Ok, Err}
use Rattle.std.specs.declared.io.Error.{Error}
use Rattle.synth_kernel.specs.declared.outcome.Ended.{Ended}
use Rattle.synth_kernel.specs.declared.outcome.Ended.TheVariants.{AllEnded, Unfinished}
use Rattle.synth_kernel.specs.declared.outcome.BootFault.{BootFault}
use Rattle.synth_kernel.specs.declared.outcome.BootFault.TheVariants.{Script, Memory, Read, Write}
use Rattle.boot_exit.specs.Exits.{boot_exit_code_of, HasBootCause, HasStreamFailed}

-- status 5 is that of a read or a write fault
pub boot_failed : {R W : Type 0} (answers : R → Result ℕ Error → R → Type 0) (fails : W → W → Type 0) (answer : Result Ended BootFault) (old new : R) (written : W) → boot_exit_code_of answer ≡ 5
    → HasBootCause answers fails answer old new written → HasStreamFailed answers fails old new written
boot_failed answers fails (Ok AllEnded) old new written five cause = absurd (omega (arith, five))
boot_failed answers fails (Ok (Unfinished live)) old new written five cause = absurd (omega (arith, five))
boot_failed answers fails (Err (Script fault)) old new written five cause = absurd (omega (arith, five))
boot_failed answers fails (Err Memory) old new written five cause = absurd (omega (arith, five))
boot_failed answers fails (Err Read) old new written five cause = inl (cause.0 refl)
boot_failed answers fails (Err Write) old new written five cause = inr (cause.1 refl)
