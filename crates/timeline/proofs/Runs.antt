-- The answer of a boot, in the exit of a run and alone.
use Rattle.std.proofs.Common.{◌≡◌, ◌≢◌, ℕ, List, Option, Result, Ok, Err, IfOk, IfErr, IfSome, subst}
use Rattle.std.specs.declared.io.Error.{Error}
use Rattle.std.specs.Io.KnownBytes.{Keeps}
use Rattle.boot_exit.specs.Exits.{HasBootCause}
use Rattle.boot_log.specs.declared.recorder.Recorder.{Recorder}
use Rattle.boot_objects.specs.declared.closing.all.TornDown.{TornDown}
use Rattle.boot_script.specs.Plans.{text_plan}
use Rattle.boot_script.specs.StreamFaults.{IsReadFault, IsWriteFault}
use Rattle.boot_view.specs.declared.command.Command.{Command}
use Rattle.boot_view.specs.Views.{IsPrinted}
use Rattle.processor.specs.Points.{Calls}
use Rattle.synth_kernel.specs.declared.outcome.BootFault.{BootFault}
use Rattle.synth_kernel.specs.declared.outcome.BootFault.TheVariants.{Read, Write}
use Rattle.synth_kernel.specs.declared.outcome.Ended.{Ended}
use Rattle.synth_kernel.specs.declared.printing.Booted.{Booted}
use Rattle.synth_kernel.specs.Boots.{IsBootFault, RunsOf}
use Rattle.timeline.specs.Runs.{IsViewedBy, IsViewAnswer}

viewed : {C : Type 0} (ran : RunsOf (Recorder C)) (shown : TornDown → Type 0) (T : Calls (Recorder C)) (made : List (Recorder C) → Type 0) (gone : Booted (Recorder C) → Type 0) (clock : C) (said : ℕ → Type 0) (command : Command) (read : Option (List ℕ)) (answer : Result Ended BootFault) (old new : Option (List ℕ))
    → IfOk answer (λ ended. IsPrinted ran shown T made gone clock said command read ended old new)
    → IfErr answer (λ fault. IfSome read (λ bytes. IsBootFault (text_plan bytes) fault))
    → IfErr answer (λ fault. fault ≢ Write → Keeps old new)
    → IsViewedBy ran shown T made gone clock said command read answer old new
viewed ran shown T made gone clock said command read (Ok ended) old new ok fault unwritten = ok
viewed ran shown T made gone clock said command read (Err why) old new ok fault unwritten = (fault, unwritten)

-- what a boot returned is the answer of a run with any words for it
pub viewed_by : {C : Type 0} (ran : RunsOf (Recorder C)) (shown : TornDown → Type 0) (T : Calls (Recorder C)) (made : List (Recorder C) → Type 0) (gone : Booted (Recorder C) → Type 0) (clock : C) (said : ℕ → Type 0) (command asked : Command) (read : Option (List ℕ)) (answer : Result Ended BootFault) (old new : Option (List ℕ))
    → command ≡ asked
    → IfOk answer (λ ended. IsPrinted ran shown T made gone clock said command read ended old new)
    → IfErr answer (λ fault. IfSome read (λ bytes. IsBootFault (text_plan bytes) fault))
    → IfErr answer (λ fault. fault ≢ Write → Keeps old new)
    → IsViewedBy ran shown T made gone clock said asked read answer old new
viewed_by ran shown T made gone clock said command asked read answer old new same ok fault unwritten =
    subst (λ (z : Command). IsViewedBy ran shown T made gone clock said z read answer old new) same
    (viewed ran shown T made gone clock said command read answer old new ok fault unwritten)

pub answer_alone : {C : Type 0} (ran : RunsOf (Recorder C)) (shown : TornDown → Type 0) (T : Calls (Recorder C)) (made : List (Recorder C) → Type 0) (gone : Booted (Recorder C) → Type 0) (clock : C) (said : ℕ → Type 0) (command : Command) (read : Option (List ℕ)) (answer : Result Ended BootFault) (old new : Option (List ℕ))
    → IsViewedBy ran shown T made gone clock said command read answer old new → IsViewAnswer ran shown T made gone clock said command read answer
answer_alone ran shown T made gone clock said command read (Ok ended) old new h = (h.0, h.1)
answer_alone ran shown T made gone clock said command read (Err fault) old new h = h.0

pub caused : {R W : Type 0} (answers : R → Result ℕ Error → R → Type 0) (fails : W → W → Type 0) (answer : Result Ended BootFault) (old new : R) (written : W)
    → IfErr answer (λ fault. fault ≡ Read → IsReadFault answers old new)
    → IfErr answer (λ fault. fault ≡ Write → IsWriteFault fails written)
    → HasBootCause answers fails answer old new written
caused answers fails (Ok ended) old new written read write = tt
caused answers fails (Err fault) old new written read write = (read, write)
