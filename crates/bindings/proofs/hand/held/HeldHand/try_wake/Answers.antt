use Rattle.bindings.proofs.Calls.{◌+◌}
use Rattle.bindings.proofs.HandKeeps.{take_keeps, call_of, known_after}
use Rattle.bindings.proofs.hand.held.HeldHand.try_wake.Goals as goal

pub invariant_of-self-clause-known : goal.invariant_of-self-clause-known
invariant_of-self-clause-known c = let x = c.args.self.now in let t = c.try_wake in
    known_after x t.new.hand (take_keeps (call_of x.hand) (c.args.wait + 2) _ _ t.result t.ensures.trace)
