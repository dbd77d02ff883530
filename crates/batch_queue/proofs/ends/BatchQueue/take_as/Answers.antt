use Rattle.batch_queue.proofs.Common.{rules, sym, ◌∙◌}
use Rattle.batch_queue.proofs.Trying.{take_effect, take_error_in, take_result_in, take_trace_in, waited_buffer, waited_more_in}
use Rattle.batch_queue.proofs.Going.{goes_then}
use Rattle.batch_queue.proofs.ends.BatchQueue.take_as.Goals as goal

pub returns-then-not-must_wait-clause-error : goal.returns-then-not-must_wait-clause-error
returns-then-not-must_wait-clause-error g c = let l = c.loop.invariant in take_error_in _ _ _ _ _ _ _ l.buffer l.waited c.try_take_as-answer.ensures.error

pub returns-then-not-must_wait-clause-trace : goal.returns-then-not-must_wait-clause-trace
returns-then-not-must_wait-clause-trace g c = let l = c.loop.invariant in take_trace_in _ _ _ _ _ _ _ _ l.buffer (sym c.must_wait.ensures ∙ c.if-not-must_wait.true) l.waited c.try_take_as-answer.ensures.trace

pub loop-preserved : goal.loop-preserved
loop-preserved g c = let l = c.loop.invariant in let is = sym c.must_wait.ensures ∙ c.if-not-must_wait.false in record {
  steps = search rules;
  same = search rules;
  buffer = waited_buffer _ _ _ _ _ is c.try_take_as-answer.ensures.effect ∙ l.buffer;
  goes = goes_then _ _ _ l.goes c.try_take_as-answer.ensures.frame;
  waited = waited_more_in _ _ _ _ _ _ _ _ l.buffer is l.waited c.try_take_as-answer.ensures.trace;
}

pub returns-then-not-must_wait-clause-result : goal.returns-then-not-must_wait-clause-result
returns-then-not-must_wait-clause-result g c = let l = c.loop.invariant in take_result_in _ _ _ _ _ _ _ _ l.buffer l.waited c.try_take_as-answer.ensures.result

pub returns-then-not-must_wait-clause-retries : goal.returns-then-not-must_wait-clause-retries
returns-then-not-must_wait-clause-retries g c = sym c.must_wait.ensures ∙ c.if-not-must_wait.true

pub returns-then-not-must_wait-clause-frame : goal.returns-then-not-must_wait-clause-frame
returns-then-not-must_wait-clause-frame g c = goes_then _ _ _ c.loop.invariant.goes c.try_take_as-answer.ensures.frame

pub returns-then-not-must_wait-clause-effect : goal.returns-then-not-must_wait-clause-effect
returns-then-not-must_wait-clause-effect g c = let l = c.loop.invariant in take_effect c.args.self.now.room _ _ _ _ _ _ _ _ l.buffer l.waited c.try_take_as-answer.ensures.effect

pub returns-then-not-must_wait-clause-protocol : goal.returns-then-not-must_wait-clause-protocol
returns-then-not-must_wait-clause-protocol g c = c.try_take_as-answer.ensures.protocol

pub returns-then-not-must_wait-clause-kept : goal.returns-then-not-must_wait-clause-kept
returns-then-not-must_wait-clause-kept g c = c.try_take_as-answer.ensures.kept
