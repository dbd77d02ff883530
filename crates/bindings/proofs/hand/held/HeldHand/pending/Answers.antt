use Rattle.bindings.proofs.HandKeeps.{stays_by, view_of, known_after}
use Rattle.bindings.proofs.hand.held.HeldHand.pending.Goals as goal

pub invariant_of-self-clause-known : goal.invariant_of-self-clause-known
invariant_of-self-clause-known c = let x = c.args.self.now in let t = c.pending in
    known_after x t.new.hand (stays_by (view_of x.hand) (view_of t.new.hand) _ t.ensures.trace.3).keeps
