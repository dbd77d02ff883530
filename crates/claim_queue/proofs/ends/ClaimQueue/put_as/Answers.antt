use Rattle.claim_queue.proofs.Common.{rules, sym, ◌∙◌}
use Rattle.claim_queue.proofs.Clients.{answer_error, answer_result, answer_shuts}
use Rattle.claim_queue.proofs.Permits.{may_again}
use Rattle.claim_queue.proofs.Putting.{tried_more, lost_by, lost_not_shut, answered}
use Rattle.claim_queue.proofs.ends.ClaimQueue.put_as.Goals as goal

pub loop-preserved : goal.loop-preserved
loop-preserved g c = let l = c.loop.invariant in let is = sym c.was_lost.ensures ∙ c.if-not-was_lost.false in let lost = lost_by _ _ _ _ _ is c.try_put_as-answer.ensures.trace in record {
  steps = search rules;
  same = search rules;
  tried = tried_more _ _ _ _ _ l.tried lost.0 lost.1 lost.2;
  may = may_again c.loop.end c.try_put_as-answer.new.end g.C.Protocol.allows c.args.items.now _ _ l.may lost.1 lost.2;
  shut = λ shut some_items fits. lost_not_shut _ is (c.try_put_as-answer.ensures.shut (l.shut shut some_items fits) some_items fits);
}

pub returns-then-not-was_lost-clause-trace : goal.returns-then-not-was_lost-clause-trace
returns-then-not-was_lost-clause-trace g c = answered _ _ _ _ _ _ (sym c.was_lost.ensures ∙ c.if-not-was_lost.true) c.loop.invariant.tried c.try_put_as-answer.ensures.trace

pub returns-then-not-was_lost-clause-result : goal.returns-then-not-was_lost-clause-result
returns-then-not-was_lost-clause-result g c = answer_result c.args.end.now _ c.try_put_as-answer.new.end.ruled _ _ (answered _ _ _ _ _ _ (sym c.was_lost.ensures ∙ c.if-not-was_lost.true) c.loop.invariant.tried c.try_put_as-answer.ensures.trace)

pub returns-then-not-was_lost-clause-error : goal.returns-then-not-was_lost-clause-error
returns-then-not-was_lost-clause-error g c = answer_error c.args.end.now _ c.try_put_as-answer.new.end.ruled _ _ (answered _ _ _ _ _ _ (sym c.was_lost.ensures ∙ c.if-not-was_lost.true) c.loop.invariant.tried c.try_put_as-answer.ensures.trace)

pub returns-then-not-was_lost-clause-shuts_nothing : goal.returns-then-not-was_lost-clause-shuts_nothing
returns-then-not-was_lost-clause-shuts_nothing g c = answer_shuts g.row.N _ _ c.args.items.now c.try_put_as-answer.result (answered _ _ _ _ _ _ (sym c.was_lost.ensures ∙ c.if-not-was_lost.true) c.loop.invariant.tried c.try_put_as-answer.ensures.trace)
