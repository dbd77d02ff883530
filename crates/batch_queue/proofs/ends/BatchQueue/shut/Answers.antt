use Rattle.batch_queue.proofs.Common.{BatchState, AbsState, ap, rules, sym}
use Rattle.batch_queue.proofs.Claims.{has_shut}
use Rattle.batch_queue.proofs.Going.{later}
use Rattle.batch_queue.proofs.Looking.{step_next}
use Rattle.batch_queue.proofs.ends.BatchQueue.shut.Goals as goal

pub returns-clause-effect : goal.returns-clause-effect
returns-clause-effect g c = let s = c.or_head.ensures.shut in (search rules, ap (λ (z : AbsState BatchState). z.object.shut) (sym (step_next _ _ _ _ s.1)))

pub returns-clause-result : goal.returns-clause-result
returns-clause-result g c = has_shut _ _ _ c.or_head.ensures.shut

pub returns-clause-frame : goal.returns-clause-frame
returns-clause-frame g c = later _ _ _ c.args.end.now.ruled c.or_head.ensures.queue.1.2 c.or_head.ensures.shut.1.made.adds
