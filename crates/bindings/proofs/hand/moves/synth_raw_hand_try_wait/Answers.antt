use Rattle.bindings.proofs.Calls.{rules, ℕ, ◌+◌, inr, subst, ap, Some, of_kind, hand_in, answered, at_value}
use Rattle.bindings.specs.HandMoves.{WasMoved, IsWaitingCall}
use Rattle.bindings.proofs.hand.moves.synth_raw_hand_try_wait.Goals as goal

pub returns-clause-moved : goal.returns-clause-moved
returns-clause-moved c = let a = c.try_wait-answer in let y = a.new.self in let x = c.in-Some.held.now in
    let e = c.in-Some-element_of in let m = c.in-Some-wait_of in
    let did = subst (λ (q : ℕ). WasMoved (q + 2) e.element a.result x y) m.ensures.0 a.ensures in
    let is = subst (λ (n : ℕ). WasMoved (c.args.wait + 2) n a.result x y) e.ensures.0 did in
    at_value (λ z. IsWaitingCall c.args.element c.args.wait z (Some y) c.answer_of_move.result)
    (ap (of_kind hand_in) c.in-Some.ensures.value)
    (inr (e.ensures.1, m.ensures.1, inr (search rules, answered y a.result is c.answer_of_move.ensures)))
