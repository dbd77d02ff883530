use Rattle.bindings.proofs.HandKeeps.{notify_keeps, call_of, known_after}
use Rattle.bindings.proofs.hand.held.HeldHand.notify.Goals as goal

pub invariant_of-self-clause-known : goal.invariant_of-self-clause-known
invariant_of-self-clause-known c = let x = c.args.self.now in let t = c.notify in
    known_after x t.new.hand (notify_keeps (call_of x.hand) c.args.wait t.result _ _ t.ensures.trace)
