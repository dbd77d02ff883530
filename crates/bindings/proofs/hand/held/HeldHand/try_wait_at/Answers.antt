use Rattle.bindings.proofs.HandKeeps.{wait_keeps, call_of, known_after}
use Rattle.bindings.proofs.hand.held.HeldHand.try_wait_at.Goals as goal

pub invariant_of-self-clause-known : goal.invariant_of-self-clause-known
invariant_of-self-clause-known c = let x = c.args.self.now in let t = c.try_wait_at in
    known_after x t.new.hand
    (wait_keeps (call_of x.hand) c.args.wait c.args.element c.args.ticket _ _ t.result t.ensures.trace)
