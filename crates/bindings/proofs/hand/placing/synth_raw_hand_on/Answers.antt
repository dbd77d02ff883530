use Rattle.bindings.proofs.Calls.{rules, ap, of_kind, hand_in, told_code}
use Rattle.bindings.specs.HandCalls.{IsOnCall}
use Rattle.bindings.proofs.hand.placing.synth_raw_hand_on.Goals as goal

pub returns-clause-on : goal.returns-clause-on
returns-clause-on c = let k = c.put_on in
    told_code k.new.held (λ x y code. IsOnCall c.args.processor c.args.element x y code)
    k.result (search rules) (ap (of_kind hand_in) c.in-Some.ensures.value) k.ensures
