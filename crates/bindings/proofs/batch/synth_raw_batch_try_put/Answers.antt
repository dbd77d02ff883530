use Rattle.bindings.proofs.Calls.{rules, ap, of_kind, batch_in, answered_code}
use Rattle.bindings.specs.BatchHeld.{Put}
use Rattle.bindings.specs.BatchCalls.{ReportsPut}
use Rattle.bindings.proofs.batch.synth_raw_batch_try_put.Goals as goal

pub returns-clause-put : goal.returns-clause-put
returns-clause-put c = let a = c.try_put-answer in let t = c.tell_put in
    answered_code (Put c.args.items.now)
    (λ r. ReportsPut r c.args.positions.now t.new.positions)
    a.new.self a.result t.result (search rules) (ap (of_kind batch_in) c.in-Some.ensures.value) a.ensures t.ensures
