use Rattle.claim_queue.proofs.Common.{Refused, length, rules, view_of}
use Rattle.claim_queue.proofs.Brevity.{claimed_steps, refused_steps}
use Rattle.std.specs.Prelude.{IfErr}
use Rattle.claim_queue.proofs.Answered.{claimed_own}
use Rattle.claim_queue.proofs.Clients.{claim_error, claim_result, claimed_shuts, refused_shuts}
use Rattle.claim_queue.proofs.Lining.{claimed_line, more_claims}
use Rattle.claim_queue.proofs.ends.ClaimQueue.try_claim_as.Goals as goal

pub returns-clause-frame : goal.returns-clause-frame
returns-clause-frame g c = more_claims _ _ _ (claimed_own _ _ _ _ _ c.in_ok-first.ensures.trace)

pub returns-clause-effect : goal.returns-clause-effect
returns-clause-effect g c = claimed_line _ _ _ _ _ c.in_ok-first.ensures.trace

pub returns-clause-result : goal.returns-clause-result
returns-clause-result g c = claim_result c.args.end.now _ c.claim_places.new.end.ruled _ _ c.in_ok-first.ensures.trace

pub returns-in_err-first-clause-error : goal.returns-in_err-first-clause-error
returns-in_err-first-clause-error g c = let new = c.claim_places.new.end in let refused : IfErr c.from_residual.result (λ e. Refused g.row.N (view_of c.args.end.now) (length c.args.items.now) e (view_of new)) = search rules in
    claim_error c.args.end.now (view_of new) new.ruled _ _ refused

pub returns-clause-shuts_nothing : goal.returns-clause-shuts_nothing
returns-clause-shuts_nothing g c = claimed_shuts _ _ _ _ _ c.in_ok-first.ensures.trace

pub returns-in_err-first-clause-shuts_nothing : goal.returns-in_err-first-clause-shuts_nothing
returns-in_err-first-clause-shuts_nothing g c = refused_shuts _ _ _ _ _ c.in_err-first.ensures.trace

pub returns-clause-steps : goal.returns-clause-steps
returns-clause-steps g c = claimed_steps _ _ _ _ _ c.in_ok-first.ensures.trace

pub returns-in_err-first-clause-steps : goal.returns-in_err-first-clause-steps
returns-in_err-first-clause-steps g c = refused_steps _ _ _ _ _ c.in_err-first.ensures.trace
