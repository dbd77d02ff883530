use Rattle.bindings.proofs.HandKeeps.{park_keeps, call_of, known_after}
use Rattle.bindings.proofs.hand.held.HeldHand.try_park.Goals as goal

pub invariant_of-self-clause-known : goal.invariant_of-self-clause-known
invariant_of-self-clause-known c = let x = c.args.self.now in let t = c.try_park in
    known_after x t.new.hand (park_keeps (call_of x.hand) c.args.element _ _ t.result t.ensures.trace)
