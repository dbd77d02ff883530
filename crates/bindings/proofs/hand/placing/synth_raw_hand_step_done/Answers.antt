use Rattle.bindings.proofs.Calls.{rules, ap, of_kind, hand_in, told_code}
use Rattle.bindings.specs.HandCalls.{IsStepCall}
use Rattle.bindings.proofs.hand.placing.synth_raw_hand_step_done.Goals as goal

pub returns-clause-done : goal.returns-clause-done
returns-clause-done c = let k = c.count_step in
    told_code k.new.held (λ x y code. IsStepCall c.args.element x y c.args.steps.now k.new.steps code)
    k.result (search rules) (ap (of_kind hand_in) c.in-Some.ensures.value) k.ensures
