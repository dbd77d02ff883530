use Rattle.bindings.proofs.Calls.{ℕ, inr, subst, arith, ap, Some, of_kind, hand_in, answered, at_value}
use Rattle.bindings.specs.HandStates.{WasStarted, IsStartCall}
use Rattle.bindings.proofs.HandFits.{fit_start}
use Rattle.bindings.proofs.hand.states.synth_raw_hand_try_start.Goals as goal

pub tell_start-requires : goal.tell_start-requires
tell_start-requires c = let a = c.try_start-answer in let m = c.in-Some-element_of in let is = m.ensures.0 in
    let below = m.ensures.1 in fit_start m.element c.in-Some.held.now a.new.self a.result (omega arith) a.ensures

pub returns-clause-started : goal.returns-clause-started
returns-clause-started c = let a = c.try_start-answer in let t = c.tell_start in let m = c.in-Some-element_of in
    let did = subst (λ (n : ℕ). WasStarted n a.result c.in-Some.held.now a.new.self) m.ensures.0 a.ensures in
    at_value (λ x. IsStartCall c.args.element c.args.started.now t.new.started t.result x (Some a.new.self)) (ap (of_kind hand_in) c.in-Some.ensures.value)
    (inr (m.ensures.1, answered a.new.self a.result did t.ensures))
