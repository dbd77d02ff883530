use Rattle.turn_dispatch.proofs.Common.{view_of, call_of, no_events, refl}
use Rattle.turn_dispatch.proofs.Calm.{steady}
use Rattle.turn_dispatch.proofs.Sends.{waited_goes}
use Rattle.turn_dispatch.proofs.moving.wait_at.Goals as goal

pub returns-clause-frame : goal.returns-clause-frame
returns-clause-frame g c = let h = c.args.hand.now in let n = c.wait_or_ready.new.hand in
    (waited_goes (call_of h) c.args.wait c.args.element c.args.ticket c.wait_or_ready.result (view_of h) (view_of n) h.fresh c.wait_or_ready.ensures.waited).0.keeps

pub returns-clause-holds : goal.returns-clause-holds
returns-clause-holds g c = let h = c.args.hand.now in let n = c.wait_or_ready.new.hand in
    (waited_goes (call_of h) c.args.wait c.args.element c.args.ticket c.wait_or_ready.result (view_of h) (view_of n) h.fresh c.wait_or_ready.ensures.waited).1

pub returns-clause-adds : goal.returns-clause-adds
returns-clause-adds g c = let h = c.args.hand.now in let n = c.wait_or_ready.new.hand in
    (waited_goes (call_of h) c.args.wait c.args.element c.args.ticket c.wait_or_ready.result (view_of h) (view_of n) h.fresh c.wait_or_ready.ensures.waited).0.adds

pub returns-clause-steady : goal.returns-clause-steady
returns-clause-steady g c = let h = c.args.hand.now in let n = c.wait_or_ready.new.hand in
    steady no_events (view_of h) (view_of n) (λ e. refl) h.fresh h.valid n.valid (waited_goes (call_of h) c.args.wait c.args.element c.args.ticket c.wait_or_ready.result (view_of h) (view_of n) h.fresh c.wait_or_ready.ensures.waited).0
