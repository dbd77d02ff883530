use Rattle.bindings.proofs.Calls.{rules, ap, of_kind, hand_in, told_code}
use Rattle.bindings.specs.HandCalls.{IsPcCall}
use Rattle.bindings.proofs.hand.placing.synth_raw_hand_pc.Goals as goal

pub returns-clause-effect : goal.returns-clause-effect
returns-clause-effect c = let k = c.tell_pc in
    told_code k.new.held (λ x y code. IsPcCall c.args.element x y c.args.steps.now k.new.steps code)
    k.result (search rules) (ap (of_kind hand_in) c.in-Some.ensures.value) k.ensures
