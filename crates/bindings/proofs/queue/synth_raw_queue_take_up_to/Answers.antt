use Rattle.bindings.proofs.Calls.{rules, inr, ap, Some, of_kind, queue_in, answered, at_value}
use Rattle.bindings.specs.QueueCalls.{TakesSome}
use Rattle.bindings.proofs.queue.synth_raw_queue_take_up_to.Goals as goal

pub returns-clause-taken : goal.returns-clause-taken
returns-clause-taken c = let t = c.take_up_to-taken in let reported = c.answer_of_some.ensures in
    at_value (λ x. TakesSome x c.args.items.now t.new.out c.args.count.now t.result.0 (Some t.new.self) c.answer_of_some.result) (ap (of_kind queue_in) c.in-Some.ensures.value)
    (inr (search rules, answered t.new.self t.result.1 t.ensures reported))
