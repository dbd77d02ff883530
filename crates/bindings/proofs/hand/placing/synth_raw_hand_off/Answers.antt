use Rattle.bindings.proofs.Calls.{rules, ap, of_kind, hand_in, told_code}
use Rattle.bindings.specs.HandCalls.{IsOffCall}
use Rattle.bindings.proofs.hand.placing.synth_raw_hand_off.Goals as goal

pub returns-clause-off : goal.returns-clause-off
returns-clause-off c = let k = c.take_off in
    told_code k.new.held (λ x y code. IsOffCall c.args.processor x y c.args.element.now k.new.element code)
    k.result (search rules) (ap (of_kind hand_in) c.in-Some.ensures.value) k.ensures
