use Rattle.boot_script.proofs.Drafts.PlanLimits.{draft_in_order}
use Rattle.boot_script.proofs.spelling_laws.names_in_order.Goals as goal

pub returns : goal.returns
returns c = draft_in_order
