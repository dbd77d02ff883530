use Rattle.bindings.proofs.Calls.{◌+◌, ℕ, inr, subst, arith, ap, Some, of_kind, hand_in, answered, at_value}
use Rattle.bindings.specs.HandTakings.{WasTaken, IsWakingCall}
use Rattle.bindings.proofs.HandFits.{fit_taking}
use Rattle.bindings.proofs.hand.takings.synth_raw_hand_try_wake.Goals as goal

pub tell_taking-requires : goal.tell_taking-requires
tell_taking-requires c = let a = c.try_wake-answer in let m = c.in-Some-wait_of in let is = m.ensures.0 in
    let below = m.ensures.1 in fit_taking (m.wait + 2) c.in-Some.held.now a.new.self a.result (omega arith) a.ensures

pub returns-clause-taken : goal.returns-clause-taken
returns-clause-taken c = let a = c.try_wake-answer in let t = c.tell_taking in let m = c.in-Some-wait_of in
    let did = subst (λ (n : ℕ). WasTaken (n + 2) a.result c.in-Some.held.now a.new.self) m.ensures.0 a.ensures in
    at_value (λ x. IsWakingCall c.args.wait x c.args.element.now t.new.element (Some a.new.self) t.result) (ap (of_kind hand_in) c.in-Some.ensures.value)
    (inr (m.ensures.1, answered a.new.self a.result did t.ensures))
