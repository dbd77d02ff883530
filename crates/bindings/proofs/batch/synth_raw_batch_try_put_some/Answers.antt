use Rattle.bindings.proofs.Calls.{rules, ap, of_kind, batch_in, answered_code}
use Rattle.bindings.specs.BatchHeld.{PutSome}
use Rattle.bindings.specs.BatchCalls.{ReportsPutSome}
use Rattle.bindings.proofs.batch.synth_raw_batch_try_put_some.Goals as goal

pub returns-clause-put : goal.returns-clause-put
returns-clause-put c = let a = c.try_put_some-answer in let t = c.tell_put_some in
    answered_code (PutSome c.args.items.now)
    (λ r. ReportsPutSome r c.args.count.now t.new.count c.args.positions.now t.new.positions)
    a.new.self a.result t.result (search rules) (ap (of_kind batch_in) c.in-Some.ensures.value) a.ensures t.ensures
