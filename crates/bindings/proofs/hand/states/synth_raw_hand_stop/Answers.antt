use Rattle.bindings.proofs.Calls.{ℕ, inr, refl, subst, pos, ap, Some, of_kind, hand_in, at_value}
use Rattle.bindings.specs.HandStates.{WasStopped, IsStopCall}
use Rattle.bindings.proofs.hand.states.synth_raw_hand_stop.Goals as goal

pub returns-clause-stopped : goal.returns-clause-stopped
returns-clause-stopped c = let a = c.stop in let y = a.new.self in let m = c.in-Some-element_of in
    let did = subst (λ (n : ℕ). WasStopped n a.result c.in-Some.held.now y) m.ensures.0 a.ensures in
    at_value (λ x. IsStopCall c.args.element c.args.was_clear.now a.result (pos 0) x (Some y)) (ap (of_kind hand_in) c.in-Some.ensures.value)
    (inr (refl, m.ensures.1, y, refl, did))
