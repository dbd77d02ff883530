-- The answer of a boot, in the exit of a run.
use Rattle.std.proofs.Common.{◌≢◌, refl, ℕ, List, Option, Some, None, Result, Ok, Err, IfOk, IfErr, IfSome}
use Rattle.std.specs.Result.{result_ok}
use Rattle.std.specs.Io.KnownBytes.{Keeps}
use Rattle.boot_script.specs.Plans.{text_plan}
use Rattle.synth_kernel.specs.declared.outcome.Ended as endings
use Rattle.synth_kernel.specs.declared.outcome.BootFault.{BootFault}
use Rattle.synth_kernel.specs.declared.outcome.BootFault.TheVariants as boot_faults
use Rattle.synth_kernel.specs.declared.printing.Booted.{Booted}
use Rattle.synth_kernel.specs.Boots.{CameBackPlain, HasNumbers, IsBoot, IsBootFault}
use Rattle.turn_io.specs.declared.gate.NoGate.{NoGate}
use Rattle.synth_kernel.specs.Boots.{RunsOf, ended_in}
use Rattle.synthesis.specs.Runs.{IsBootedBy}
use Rattle.boot_objects.specs.declared.closing.all.TornDown.{TornDown}

-- what a boot returned is in the exit
pub booted_by : (ran : RunsOf NoGate) (shown : TornDown → Type 0) (read : Option (List ℕ)) (processors turns : ℕ) (answer : Result (Booted NoGate) BootFault) (old new : Option (List ℕ))
    → IfOk answer (HasNumbers processors turns)
    → IfOk answer (λ booted. IsBoot (CameBackPlain ran shown processors turns booted.gates.items booted.closed) read booted.ended old new)
    → IfErr answer (λ fault. IfSome read (λ bytes. IsBootFault (text_plan bytes) fault))
    → IfErr answer (λ fault. fault ≢ boot_faults.Write → Keeps old new)
    → IsBootedBy ran shown read processors turns (ended_in answer) (result_ok answer) old new
booted_by ran shown read processors turns (Ok booted) old new numbers boot fault unwritten = ((refl, numbers, boot), tt)
booted_by ran shown read processors turns (Err why) old new numbers boot fault unwritten = (fault, unwritten)
