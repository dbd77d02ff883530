use Rattle.bindings.proofs.Calls.{ℕ, inr, refl, subst, pos, ap, Some, of_kind, hand_in, at_value}
use Rattle.bindings.specs.HandTakings.{WasNotified, IsNotifyCall}
use Rattle.bindings.proofs.hand.takings.synth_raw_hand_notify.Goals as goal

pub returns-clause-notified : goal.returns-clause-notified
returns-clause-notified c = let a = c.notify in let y = a.new.self in let m = c.in-Some-wait_of in
    let did = subst (λ (n : ℕ). WasNotified n a.result c.in-Some.held.now y) m.ensures.0 a.ensures in
    at_value (λ x. IsNotifyCall c.args.wait c.args.head.now a.result (pos 0) x (Some y)) (ap (of_kind hand_in) c.in-Some.ensures.value)
    (inr (refl, m.ensures.1, y, refl, did))
