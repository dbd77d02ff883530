use Rattle.turn_dispatch.proofs.Common.{rules, view_of, call_of, done_at, retired}
use Rattle.turn_dispatch.proofs.Calm.{steady}
use Rattle.turn_dispatch.proofs.Sends.{retired_goes, retires_none, sent_holds}
use Rattle.turn_dispatch.proofs.moving.retire.Goals as goal

pub returns-clause-frame : goal.returns-clause-frame
returns-clause-frame g c = let h = c.args.hand.now in let n = c.send.new.hand in (retired_goes (call_of h) c.args.element c.send.result (view_of h) (view_of n) (search rules) h.fresh c.requires.held h.valid n.valid c.send.ensures.sent).keeps

pub returns-clause-holds : goal.returns-clause-holds
returns-clause-holds g c = let h = c.args.hand.now in let n = c.send.new.hand in sent_holds (call_of h) 1 c.args.element c.send.result (view_of h) (view_of n) h.fresh c.send.ensures.sent

pub returns-clause-adds : goal.returns-clause-adds
returns-clause-adds g c = let h = c.args.hand.now in let n = c.send.new.hand in (retired_goes (call_of h) c.args.element c.send.result (view_of h) (view_of n) (search rules) h.fresh c.requires.held h.valid n.valid c.send.ensures.sent).adds

pub returns-clause-steady : goal.returns-clause-steady
returns-clause-steady g c = let h = c.args.hand.now in let n = c.send.new.hand in steady (retired c.send.result c.args.element (done_at (view_of h).seen.object c.args.element)) (view_of h) (view_of n) (retires_none c.send.result c.args.element _) h.fresh h.valid n.valid (retired_goes (call_of h) c.args.element c.send.result (view_of h) (view_of n) (search rules) h.fresh c.requires.held h.valid n.valid c.send.ensures.sent)
