use Rattle.bindings.proofs.Calls.{ap, Some, of_kind, queue_in, answered, at_value}
use Rattle.bindings.specs.QueueCalls.{WasPut}
use Rattle.bindings.proofs.queue.synth_raw_queue_try_put.Goals as goal

pub returns-clause-put : goal.returns-clause-put
returns-clause-put c = let t = c.answer_of_claim.ensures in at_value (λ x. WasPut x c.args.items.now (Some c.try_put-answer.new.self) c.answer_of_claim.result) (ap (of_kind queue_in) c.in-Some.ensures.value)
    (answered c.try_put-answer.new.self c.try_put-answer.result c.try_put-answer.ensures t)
