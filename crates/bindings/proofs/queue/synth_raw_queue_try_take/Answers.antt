use Rattle.bindings.proofs.Calls.{refl, ap, Ok, Err, Some, of_kind, queue_in, answered, at_value}
use Rattle.bindings.specs.QueueCalls.{WasTaken}
use Rattle.bindings.proofs.queue.synth_raw_queue_try_take.Goals as goal

pub returns-in-Ok-clause-taken : goal.returns-in-Ok-clause-taken
returns-in-Ok-clause-taken c = let t = c.answer_of-in-Ok.ensures in at_value (λ x. WasTaken x c.args.item.now c.in-Ok.taken (Some c.try_take-answer.new.self) c.answer_of-in-Ok.result) (ap (of_kind queue_in) c.in-Some.ensures.value)
    (answered c.try_take-answer.new.self (Ok c.in-Ok.taken) c.in-Ok.ensures (refl, t))

pub returns-in-Err-clause-taken : goal.returns-in-Err-clause-taken
returns-in-Err-clause-taken c = let t = c.answer_of_take.ensures in at_value (λ x. WasTaken x c.args.item.now c.args.item.now (Some c.try_take-answer.new.self) c.answer_of_take.result) (ap (of_kind queue_in) c.in-Some.ensures.value)
    (answered c.try_take-answer.new.self (Err c.in-Err.refusal) c.in-Err.ensures (refl, t))
