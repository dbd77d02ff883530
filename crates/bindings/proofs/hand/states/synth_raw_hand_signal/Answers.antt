use Rattle.bindings.proofs.Calls.{ℕ, inr, refl, subst, pos, ap, Some, of_kind, hand_in, at_value}
use Rattle.bindings.specs.HandStates.{WasSignalled, IsSignalCall}
use Rattle.bindings.proofs.hand.states.synth_raw_hand_signal.Goals as goal

pub returns-clause-signalled : goal.returns-clause-signalled
returns-clause-signalled c = let a = c.signal in let r = c.was_raised in let y = a.new.self in
    let e = c.in-Some-element_of in let s = c.in-Some-signal_of in let x = c.in-Some.held.now in
    let did = subst (λ (n : ℕ). WasSignalled e.element n a.result x y) s.ensures.0 a.ensures in
    let is = subst (λ (n : ℕ). WasSignalled n c.args.signal a.result x y) e.ensures.0 did in
    at_value (λ z. IsSignalCall c.args.element c.args.signal c.args.raised.now r.result (pos 0) z (Some y))
    (ap (of_kind hand_in) c.in-Some.ensures.value)
    (inr (refl, e.ensures.1, s.ensures.1, y, refl, a.result, r.ensures, is))
