use Rattle.bindings.proofs.HandKeeps.{deliver_keeps, call_of, known_after}
use Rattle.bindings.proofs.hand.held.HeldHand.try_deliver.Goals as goal

pub invariant_of-self-clause-known : goal.invariant_of-self-clause-known
invariant_of-self-clause-known c = let x = c.args.self.now in let t = c.try_deliver in
    known_after x t.new.hand (deliver_keeps (call_of x.hand) c.args.element _ _ t.result t.ensures.trace)
