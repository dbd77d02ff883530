use Rattle.bindings.proofs.Calls.{◌+◌}
use Rattle.bindings.proofs.HandKeeps.{before_keeps, call_of, known_after}
use Rattle.bindings.proofs.hand.held.HeldHand.try_wake_before.Goals as goal

pub invariant_of-self-clause-known : goal.invariant_of-self-clause-known
invariant_of-self-clause-known c = let x = c.args.self.now in let t = c.try_wake_before in
    known_after x t.new.hand (before_keeps (call_of x.hand) (c.args.wait + 2) c.args.head _ _ t.result t.ensures.trace)
