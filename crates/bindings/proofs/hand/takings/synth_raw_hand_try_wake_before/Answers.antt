use Rattle.bindings.proofs.Calls.{ℕ, inr, subst, arith, ap, Some, of_kind, hand_in, answered, at_value}
use Rattle.bindings.specs.HandTakings.{WasTriedBefore, IsBeforeCall}
use Rattle.bindings.proofs.HandFits.{fit_before}
use Rattle.bindings.proofs.hand.takings.synth_raw_hand_try_wake_before.Goals as goal

pub tell_before-requires : goal.tell_before-requires
tell_before-requires c = let a = c.try_wake_before-answer in let m = c.in-Some-wait_of in let is = m.ensures.0 in
    let below = m.ensures.1 in
    fit_before m.wait c.args.head c.in-Some.held.now a.new.self a.result (omega arith) a.ensures

pub returns-clause-taken : goal.returns-clause-taken
returns-clause-taken c = let a = c.try_wake_before-answer in let t = c.tell_before in let m = c.in-Some-wait_of in
    let did = subst (λ (n : ℕ). WasTriedBefore n c.args.head a.result c.in-Some.held.now a.new.self) m.ensures.0 a.ensures in
    at_value (λ x. IsBeforeCall c.args.wait c.args.head c.args.element.now t.new.element t.result x (Some a.new.self)) (ap (of_kind hand_in) c.in-Some.ensures.value)
    (inr (m.ensures.1, answered a.new.self a.result did t.ensures))
