use Rattle.bindings.proofs.Calls.{rules, ap, of_kind, batch_in, answered_code}
use Rattle.bindings.specs.BatchHeld.{Took}
use Rattle.bindings.specs.BatchCalls.{ReportsTake}
use Rattle.bindings.proofs.batch.synth_raw_batch_try_take.Goals as goal

pub returns-clause-taken : goal.returns-clause-taken
returns-clause-taken c = let a = c.try_take-answer in let t = c.tell_take in
    answered_code (Took c.args.items.now a.new.items)
    (λ r. ReportsTake r c.args.count.now t.new.count c.args.positions.now t.new.positions)
    a.new.self a.result t.result (search rules) (ap (of_kind batch_in) c.in-Some.ensures.value) a.ensures t.ensures
