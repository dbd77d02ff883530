use Rattle.bindings.proofs.HandKeeps.{signal_keeps, call_of, known_after}
use Rattle.bindings.proofs.hand.held.HeldHand.signal.Goals as goal

pub invariant_of-self-clause-known : goal.invariant_of-self-clause-known
invariant_of-self-clause-known c = let x = c.args.self.now in let t = c.signal in
    known_after x t.new.hand (signal_keeps (call_of x.hand) c.args.element c.args.signal _ _ t.result t.ensures.trace)
