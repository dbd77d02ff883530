use Rattle.bindings.proofs.Calls.{rules, inr, refl, ap, Ok, Err, Some, of_kind, queue_in, answered, at_value}
use Rattle.bindings.specs.QueueCalls.{TakesLine}
use Rattle.bindings.proofs.queue.synth_raw_queue_try_take_line.Goals as goal

pub returns-in-Ok-clause-taken : goal.returns-in-Ok-clause-taken
returns-in-Ok-clause-taken c = let t = c.try_take_line-answer in let reported = c.answer_of-in-Ok.ensures in
    at_value (λ x. TakesLine x c.args.line.now t.new.out c.args.count.now c.in-Ok.taken (Some t.new.self) c.answer_of-in-Ok.result) (ap (of_kind queue_in) c.in-Some.ensures.value)
    (inr (search rules, answered t.new.self (Ok c.in-Ok.taken) c.in-Ok.ensures (refl, reported)))

pub returns-in-Err-clause-taken : goal.returns-in-Err-clause-taken
returns-in-Err-clause-taken c = let t = c.try_take_line-answer in let reported = c.answer_of_take.ensures in
    at_value (λ x. TakesLine x c.args.line.now t.new.out c.args.count.now c.args.count.now (Some t.new.self) c.answer_of_take.result) (ap (of_kind queue_in) c.in-Some.ensures.value)
    (inr (search rules, answered t.new.self (Err c.in-Err.refusal) c.in-Err.ensures (refl, reported)))
