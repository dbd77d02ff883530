use Rattle.batch_queue.proofs.Common.{sym, ◌∙◌, rules}
use Rattle.batch_queue.proofs.Trying.{put_effect, put_error, tried_more, lost_not_shut, answered, put_result}
use Rattle.batch_queue.proofs.Going.{goes_then}
use Rattle.batch_queue.proofs.Permits.{may_again}
use Rattle.batch_queue.proofs.ends.BatchQueue.put_as.Goals as goal

pub loop-preserved : goal.loop-preserved
loop-preserved g c = let l = c.loop.invariant in let is = sym c.was_lost.ensures ∙ c.if-not-was_lost.false in record {
  steps = search rules;
  same = search rules;
  tried = tried_more _ _ _ _ _ _ is l.tried c.try_put_as-answer.ensures.trace;
  may = may_again c.loop.end c.try_put_as-answer.new.end g.C.Protocol.allows c.args.items.now _ _ is l.may c.try_put_as-answer.ensures.frame c.try_put_as-answer.ensures.trace;
  goes = goes_then _ _ _ l.goes c.try_put_as-answer.ensures.frame;
  shut = λ shut some_items fits. lost_not_shut _ is (c.try_put_as-answer.ensures.shut (l.shut shut some_items fits) some_items fits);
}

pub returns-then-not-was_lost-clause-trace : goal.returns-then-not-was_lost-clause-trace
returns-then-not-was_lost-clause-trace g c = answered _ _ _ _ _ _ (sym c.was_lost.ensures ∙ c.if-not-was_lost.true) c.loop.invariant.tried c.try_put_as-answer.ensures.trace

pub returns-then-not-was_lost-clause-error : goal.returns-then-not-was_lost-clause-error
returns-then-not-was_lost-clause-error g c = put_error _ _ _ _ _ _ c.loop.invariant.tried c.try_put_as-answer.ensures.error

pub returns-then-not-was_lost-clause-effect : goal.returns-then-not-was_lost-clause-effect
returns-then-not-was_lost-clause-effect g c = put_effect _ _ _ _ _ _ c.loop.invariant.tried c.try_put_as-answer.ensures.effect

pub returns-then-not-was_lost-clause-result : goal.returns-then-not-was_lost-clause-result
returns-then-not-was_lost-clause-result g c = put_result _ _ _ _ _ _ c.loop.invariant.tried c.try_put_as-answer.ensures.result

pub returns-then-not-was_lost-clause-retries : goal.returns-then-not-was_lost-clause-retries
returns-then-not-was_lost-clause-retries g c = sym c.was_lost.ensures ∙ c.if-not-was_lost.true

pub returns-then-not-was_lost-clause-frame : goal.returns-then-not-was_lost-clause-frame
returns-then-not-was_lost-clause-frame g c = goes_then _ _ _ c.loop.invariant.goes c.try_put_as-answer.ensures.frame
