use Rattle.turn_dispatch.proofs.Common.{view_of, call_of, no_events, refl}
use Rattle.turn_dispatch.proofs.Calm.{steady}
use Rattle.turn_dispatch.proofs.Wakes.{resumed_is}
use Rattle.turn_dispatch.proofs.waking.start.Goals as goal

pub returns-clause-frame : goal.returns-clause-frame
returns-clause-frame g c = let h = c.args.hand.now in let n = c.resume.new.hand in (resumed_is (call_of h) c.args.element c.resume.result (view_of h) (view_of n) c.resume.ensures.started).0.keeps

pub returns-clause-holds : goal.returns-clause-holds
returns-clause-holds g c = let h = c.args.hand.now in let n = c.resume.new.hand in (resumed_is (call_of h) c.args.element c.resume.result (view_of h) (view_of n) c.resume.ensures.started).1

pub returns-clause-adds : goal.returns-clause-adds
returns-clause-adds g c = let h = c.args.hand.now in let n = c.resume.new.hand in (resumed_is (call_of h) c.args.element c.resume.result (view_of h) (view_of n) c.resume.ensures.started).0.adds

pub returns-clause-steady : goal.returns-clause-steady
returns-clause-steady g c = let h = c.args.hand.now in let n = c.resume.new.hand in steady no_events (view_of h) (view_of n) (λ e. refl) h.fresh h.valid n.valid (resumed_is (call_of h) c.args.element c.resume.result (view_of h) (view_of n) c.resume.ensures.started).0
