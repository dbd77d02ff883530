use Rattle.boot_script.proofs.Input.Filled.{replay_of_read, fault_of_read}
use Rattle.boot_script.proofs.run.replay_on.Goals as goal

pub returns-clause-ok : goal.returns-clause-ok
returns-clause-ok g c = replay_of_read _ _ _ _ _ c.in_ok-filled.ensures.events c.run_text.ensures.ok

pub returns-clause-fault : goal.returns-clause-fault
returns-clause-fault g c = fault_of_read _ _ _ c.in_ok-filled.ensures.events c.run_text.ensures.fault
