use Rattle.boot_script.proofs.Drafts.PlanLimits.{plan_within}
use Rattle.boot_script.proofs.spelling_laws.within_limits.Goals as goal

pub returns : goal.returns
returns c = plan_within
