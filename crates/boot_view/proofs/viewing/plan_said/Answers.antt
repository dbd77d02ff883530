use Rattle.boot_view.proofs.Common.{◌≡◌, ℕ, List, inl, inr, IsOk, text_plan}
use Rattle.boot_script.specs.declared.fault.ScriptFault.{ScriptFault}
use Rattle.boot_script.specs.declared.fault.ScriptRefusal.TheVariants.{OutOfMemory}
use Rattle.boot_script.specs.Answers.{IsFault}
use Rattle.boot_script.proofs.BootScripts.Faults.{text_plan_known}
use Rattle.boot_view.proofs.viewing.plan_said.Goals as goal

last : (text : List ℕ) (fault : ScriptFault) → fault.refusal ≡ OutOfMemory → IsFault fault (text_plan text) → IsOk (text_plan text)
last text fault is (inl none) = none.1
last text fault is (inr said) = absurd (text_plan_known text fault said is)

pub returns-in-OutOfMemory-clause-read : goal.returns-in-OutOfMemory-clause-read
returns-in-OutOfMemory-clause-read c = last c.args.text.now c.in-Err.fault c.in-OutOfMemory.is c.in-Err.ensures
