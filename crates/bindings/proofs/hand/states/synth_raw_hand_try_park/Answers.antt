use Rattle.bindings.proofs.Calls.{rules, ℕ, inr, subst, arith, ap, Some, of_kind, hand_in, answered, at_value}
use Rattle.bindings.specs.HandStates.{WasParked, IsParkCall}
use Rattle.bindings.proofs.HandFits.{fit_park}
use Rattle.bindings.proofs.hand.states.synth_raw_hand_try_park.Goals as goal

pub tell_park-requires : goal.tell_park-requires
tell_park-requires c = let a = c.try_park-answer in let m = c.in-Some-element_of in let is = m.ensures.0 in
    let below = m.ensures.1 in fit_park m.element c.in-Some.held.now a.new.self a.result (omega arith) a.ensures

pub returns-clause-parked : goal.returns-clause-parked
returns-clause-parked c = let a = c.try_park-answer in let t = c.tell_park in let m = c.in-Some-element_of in
    let did = subst (λ (n : ℕ). WasParked n a.result c.in-Some.held.now a.new.self) m.ensures.0 a.ensures in
    at_value (λ x. IsParkCall c.args.element c.args.parked.now t.new.parked t.result x (Some a.new.self)) (ap (of_kind hand_in) c.in-Some.ensures.value)
    (inr (inr (m.ensures.1, search rules, answered a.new.self a.result did t.ensures)))
