use Rattle.bindings.proofs.Calls.{rules, ℕ, inr, subst, ap, Some, of_kind, hand_in, answered, at_value}
use Rattle.bindings.specs.HandMoves.{WasMoved, IsMovingCall}
use Rattle.bindings.proofs.hand.moves.synth_raw_hand_try_retire.Goals as goal

pub returns-clause-moved : goal.returns-clause-moved
returns-clause-moved c = let a = c.try_retire-answer in let y = a.new.self in let m = c.in-Some-element_of in
    let did = subst (λ (n : ℕ). WasMoved 1 n a.result c.in-Some.held.now y) m.ensures.0 a.ensures in
    at_value (λ x. IsMovingCall 1 c.args.element x (Some y) c.answer_of_move.result)
    (ap (of_kind hand_in) c.in-Some.ensures.value)
    (inr (m.ensures.1, inr (search rules, answered y a.result did c.answer_of_move.ensures)))
