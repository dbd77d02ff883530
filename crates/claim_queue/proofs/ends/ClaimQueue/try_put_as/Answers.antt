use Rattle.claim_queue.proofs.Common.{Refused, arith, length, rules, view_of}
use Rattle.claim_queue.proofs.Brevity.{put_steps, refused_steps}
use Rattle.std.specs.Prelude.{IfErr}
use Rattle.claim_queue.proofs.Answered.{put_own}
use Rattle.claim_queue.proofs.Certain.{distinct_end}
use Rattle.claim_queue.proofs.Clients.{claim_error, put_result, put_shuts, refused_shuts}
use Rattle.claim_queue.proofs.Lining.{more_claims, put_line, raised_put}
use Rattle.claim_queue.proofs.Putting.{put_of}
use Rattle.claim_queue.proofs.ends.ClaimQueue.try_put_as.Goals as goal

pub returns : goal.returns
returns g c = let put = put_of _ _ _ _ _ _ (distinct_end c.claim_places.new.end) c.in_ok-start.ensures.owns.0 c.in_ok-start.ensures.trace c.raise_all.ensures.trace in record {
  effect = put_line _ _ _ _ _ put;
  result = put_result c.args.end.now _ c.raise_all.new.end.ruled _ _ put;
  frame = more_claims _ _ _ (put_own _ _ _ _ _ put);
  shuts_nothing = put_shuts _ _ _ _ _ put;
  steps = put_steps _ _ _ _ _ put;
  owns = c.raise_all.ensures.owns;
  error = search rules;
  raised = raised_put _ _ _ _ _ put;
  shut = search rules;
  trace = put;
  handle = search rules;
}

pub returns-in_err-start-clause-error : goal.returns-in_err-start-clause-error
returns-in_err-start-clause-error g c = let new = c.claim_places.new.end in let refused : IfErr c.from_residual.result (λ e. Refused g.row.N (view_of c.args.end.now) (length c.args.items.now) e (view_of new)) = search rules in
    claim_error c.args.end.now (view_of new) new.ruled _ _ refused

pub returns-in_err-start-clause-shuts_nothing : goal.returns-in_err-start-clause-shuts_nothing
returns-in_err-start-clause-shuts_nothing g c = refused_shuts _ _ _ _ _ c.in_err-start.ensures.trace

pub returns-in_err-start-clause-steps : goal.returns-in_err-start-clause-steps
returns-in_err-start-clause-steps g c = let few = refused_steps _ _ _ _ _ c.in_err-start.ensures.trace in omega arith
