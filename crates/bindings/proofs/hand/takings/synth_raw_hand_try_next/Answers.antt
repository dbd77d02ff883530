use Rattle.bindings.proofs.Calls.{arith, ap, Some, of_kind, hand_in, answered, at_value}
use Rattle.bindings.specs.HandTakings.{IsTakingCall}
use Rattle.bindings.proofs.HandFits.{fit_taking}
use Rattle.bindings.proofs.hand.takings.synth_raw_hand_try_next.Goals as goal

pub tell_taking-requires : goal.tell_taking-requires
tell_taking-requires c = let a = c.try_next-answer in
    fit_taking 0 c.in-Some.held.now a.new.self a.result (omega arith) a.ensures

pub returns-clause-taken : goal.returns-clause-taken
returns-clause-taken c = let a = c.try_next-answer in let y = a.new.self in let t = c.tell_taking in
    at_value (λ x. IsTakingCall 0 x c.args.element.now t.new.element (Some y) t.result)
    (ap (of_kind hand_in) c.in-Some.ensures.value) (answered y a.result a.ensures t.ensures)
