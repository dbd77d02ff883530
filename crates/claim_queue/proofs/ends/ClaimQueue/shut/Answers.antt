use Rattle.claim_queue.proofs.Clients.{shut_result}
use Rattle.claim_queue.proofs.Brevity.{shut_now_steps}
use Rattle.claim_queue.proofs.ends.ClaimQueue.shut.Goals as goal

pub returns-clause-result : goal.returns-clause-result
returns-clause-result g c = shut_result c.args.end.now _ _ c.or_head.ensures.shut

pub returns-clause-steps : goal.returns-clause-steps
returns-clause-steps g c = shut_now_steps _ _ _ c.or_head.ensures.shut
