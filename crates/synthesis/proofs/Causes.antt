-- The cause of a read or write fault, as the status of a run has it.
use Rattle.std.proofs.Common.{◌≡◌, ◌≢◌, inl, inr, ℕ, refl, arith, Result, Ok, Err, IfErr, ap}
use Rattle.std.specs.declared.io.Error.{Error}
use Rattle.boot_script.specs.declared.outcome.Replayed.{Replayed}
use Rattle.boot_script.specs.declared.outcome.Replayed.TheVariants.{AllAllowed, Refused}
use Rattle.boot_script.specs.declared.outcome.ReplayFault.{ReplayFault}
use Rattle.boot_script.specs.declared.outcome.ReplayFault.TheVariants.{Script, Memory, Read, Write}
use Rattle.boot_script.specs.StreamFaults.{IsReadFault, IsWriteFault}
use Rattle.synth_kernel.specs.declared.outcome.BootFault.{BootFault}
use Rattle.synth_kernel.specs.declared.outcome.BootFault.TheVariants as boot_faults
use Rattle.synth_kernel.specs.declared.printing.Booted.{Booted}
use Rattle.turn_io.specs.declared.gate.NoGate.{NoGate}
use Rattle.boot_script.specs.Exits.{exit_code_of, HasCause}
use Rattle.boot_exit.specs.Exits.{HasBootCause, HasStreamFailed}
use Rattle.synth_kernel.specs.Boots.{ended_in}

-- if the answer alone isn't a read fault, all that came of the boot isn't one
pub unread : (answer : Result (Booted NoGate) BootFault) → ended_in answer ≢ Err boot_faults.Read → answer ≢ Err boot_faults.Read
unread answer h = λ e. h (ap ended_in e)

module _ {R W : Type 0} (answers : R → Result ℕ Error → R → Type 0) (fails : W → W → Type 0) where
  pub boot_caused : (answer : Result (Booted NoGate) BootFault) (old new : R) (written : W)
      → IfErr answer (λ fault. fault ≡ boot_faults.Read → IsReadFault answers old new)
      → IfErr answer (λ fault. fault ≡ boot_faults.Write → IsWriteFault fails written)
      → HasBootCause answers fails (ended_in answer) old new written
  boot_caused (Ok booted) old new written read write = tt
  boot_caused (Err fault) old new written read write = (read, write)

  -- status 5 is that of a read or a write fault
  pub replay_failed : (answer : Result Replayed ReplayFault) (old new : R) (written : W) → exit_code_of answer ≡ 5
      → HasCause answers fails answer old new written → HasStreamFailed answers fails old new written
  replay_failed (Ok AllAllowed) old new written five cause = absurd (omega (arith, five))
  replay_failed (Ok (Refused line refusal)) old new written five cause = absurd (omega (arith, five))
  replay_failed (Err (Script fault)) old new written five cause = absurd (omega (arith, five))
  replay_failed (Err Memory) old new written five cause = absurd (omega (arith, five))
  replay_failed (Err Read) old new written five cause = inl (cause.0 refl)
  replay_failed (Err Write) old new written five cause = inr (cause.1 refl)
