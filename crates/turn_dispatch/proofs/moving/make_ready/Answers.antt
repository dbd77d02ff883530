use Rattle.turn_dispatch.proofs.Common.{view_of, call_of, no_events, arith, refl}
use Rattle.turn_dispatch.proofs.Calm.{steady}
use Rattle.turn_dispatch.proofs.Sends.{sent_goes, sent_holds}
use Rattle.turn_dispatch.proofs.moving.make_ready.Goals as goal

pub returns-clause-frame : goal.returns-clause-frame
returns-clause-frame g c = let h = c.args.hand.now in let n = c.send.new.hand in (sent_goes (call_of h) 0 c.args.element c.send.result (view_of h) (view_of n) (λ z. omega arith) h.fresh c.send.ensures.sent).keeps

pub returns-clause-holds : goal.returns-clause-holds
returns-clause-holds g c = let h = c.args.hand.now in let n = c.send.new.hand in sent_holds (call_of h) 0 c.args.element c.send.result (view_of h) (view_of n) h.fresh c.send.ensures.sent

pub returns-clause-adds : goal.returns-clause-adds
returns-clause-adds g c = let h = c.args.hand.now in let n = c.send.new.hand in (sent_goes (call_of h) 0 c.args.element c.send.result (view_of h) (view_of n) (λ z. omega arith) h.fresh c.send.ensures.sent).adds

pub returns-clause-steady : goal.returns-clause-steady
returns-clause-steady g c = let h = c.args.hand.now in let n = c.send.new.hand in steady no_events (view_of h) (view_of n) (λ e. refl) h.fresh h.valid n.valid (sent_goes (call_of h) 0 c.args.element c.send.result (view_of h) (view_of n) (λ z. omega arith) h.fresh c.send.ensures.sent)
