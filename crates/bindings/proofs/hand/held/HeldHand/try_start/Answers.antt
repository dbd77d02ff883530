use Rattle.bindings.proofs.HandKeeps.{start_keeps, call_of, known_after}
use Rattle.bindings.proofs.hand.held.HeldHand.try_start.Goals as goal

pub invariant_of-self-clause-known : goal.invariant_of-self-clause-known
invariant_of-self-clause-known c = let x = c.args.self.now in let t = c.try_start in
    known_after x t.new.hand (start_keeps (call_of x.hand) c.args.element _ _ t.result t.ensures.trace)
