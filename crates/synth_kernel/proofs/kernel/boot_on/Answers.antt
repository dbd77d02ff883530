use Rattle.synth_kernel.proofs.Common.{sym, ◌∙◌}
use Rattle.synth_kernel.proofs.Answering.{plain_ok}
use Rattle.synth_kernel.proofs.kernel.boot_on.Goals as goal

pub returns-clause-ok : goal.returns-clause-ok
returns-clause-ok g c = plain_ok g.R.Witness.ran g.R.Witness.shown _ _ c.args.processors _ c.boot_and_print.result c.in_ok-plan.plan _ _ (sym c.in_ok-idle.idle.ok.0 ∙ c.in_ok-idle.ensures) c.in_ok-plan.ensures.read c.boot_and_print.ensures.ok
