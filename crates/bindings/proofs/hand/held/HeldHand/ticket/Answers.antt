use Rattle.bindings.proofs.HandKeeps.{ticket_stays, view_of, known_after}
use Rattle.bindings.proofs.hand.held.HeldHand.ticket.Goals as goal

pub invariant_of-self-clause-known : goal.invariant_of-self-clause-known
invariant_of-self-clause-known c = let x = c.args.self.now in let t = c.ticket in
    known_after x t.new.hand
    (ticket_stays c.args.wait t.result (view_of x.hand) (view_of t.new.hand) t.ensures.trace).keeps
