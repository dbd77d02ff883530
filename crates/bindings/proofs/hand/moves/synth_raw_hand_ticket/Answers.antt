use Rattle.bindings.proofs.Calls.{ℕ, inr, refl, subst, pos, ap, Some, of_kind, hand_in, at_value}
use Rattle.bindings.specs.HandMoves.{WasTicket, IsTicketCall}
use Rattle.bindings.proofs.hand.moves.synth_raw_hand_ticket.Goals as goal

pub returns-clause-loaded : goal.returns-clause-loaded
returns-clause-loaded c = let a = c.ticket in let y = a.new.self in let m = c.in-Some-wait_of in
    let did = subst (λ (n : ℕ). WasTicket n a.result c.in-Some.held.now y) m.ensures.0 a.ensures in
    at_value (λ x. IsTicketCall c.args.wait c.args.ticket.now a.result (pos 0) x (Some y)) (ap (of_kind hand_in) c.in-Some.ensures.value)
    (inr (refl, m.ensures.1, y, refl, did))
