use Rattle.bindings.proofs.Calls.{rules, ℕ, inr, subst, arith, ap, Some, of_kind, hand_in, answered, at_value}
use Rattle.bindings.specs.HandStates.{WereDelivered, IsDeliverCall}
use Rattle.bindings.proofs.HandFits.{fit_delivery}
use Rattle.bindings.proofs.hand.states.synth_raw_hand_try_deliver.Goals as goal

pub tell_delivery-requires : goal.tell_delivery-requires
tell_delivery-requires c = let a = c.try_deliver-answer in let m = c.in-Some-element_of in let is = m.ensures.0 in
    let below = m.ensures.1 in fit_delivery m.element c.in-Some.held.now a.new.self a.result (omega arith) a.ensures

pub returns-clause-delivered : goal.returns-clause-delivered
returns-clause-delivered c = let a = c.try_deliver-answer in let t = c.tell_delivery in let m = c.in-Some-element_of in
    let did = subst (λ (n : ℕ). WereDelivered n a.result c.in-Some.held.now a.new.self) m.ensures.0 a.ensures in
    at_value (λ x. IsDeliverCall c.args.element c.args.signals.now t.new.signals t.result x (Some a.new.self)) (ap (of_kind hand_in) c.in-Some.ensures.value)
    (inr (inr (m.ensures.1, search rules, answered a.new.self a.result did t.ensures)))
