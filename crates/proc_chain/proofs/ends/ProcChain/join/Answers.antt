use Rattle.proc_chain.proofs.Common.{◌∙◌}
use Rattle.proc_chain.proofs.Clients.{has_theirs}
use Rattle.proc_chain.proofs.ends.ProcChain.join.Goals as goal
use Rattle.proc_chain.proofs.ends.ProcChain.join.Goals.{then-other, else-other}

pub returns-clause-trace : goal.returns-clause-trace
returns-clause-trace g c = elim c.if-other.branch [
  | then-other w ↦ rw w.if-other.true (rw (w.end-is ∙ w.swap.ensures.x_after) at (rw (w.other-is ∙ w.swap.ensures.y_after) at c.take_over.ensures.joined))
  | else-other w ↦ rw w.if-other.false (rw w.end-is at (rw w.other-is at c.take_over.ensures.joined))
]

pub returns-clause-effect : goal.returns-clause-effect
returns-clause-effect g c = has_theirs _ _ _ _ (returns-clause-trace g c)
