use Rattle.boot_script.proofs.EventScripts.Faults.{memory_last}
use Rattle.boot_script.proofs.run.run_text.Goals as goal

pub returns-in-OutOfMemory-clause-fault : goal.returns-in-OutOfMemory-clause-fault
returns-in-OutOfMemory-clause-fault g c = memory_last c.args.text.now c.in-Err.fault c.in-OutOfMemory.is c.in-Err.ensures.said
