use Rattle.synth_kernel.proofs.Answering.{boots}
use Rattle.synth_kernel.proofs.kernel.boot_on_with.Goals as goal

pub returns-clause-ok : goal.returns-clause-ok
returns-clause-ok g c = boots g.R.Witness.ran g.R.Witness.shown _ _ _ _ c.boot_and_print.result c.in_ok-plan.plan _ _ c.in_ok-plan.ensures.read c.boot_and_print.ensures.ok
