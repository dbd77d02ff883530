use Rattle.turn_dispatch.proofs.Common.{view_of, call_of, ◌∙◌, false, get_or, ap}
use Rattle.turn_dispatch.proofs.Placed.{off_is}
use Rattle.turn_dispatch.proofs.placing.take_off.Goals as goal

pub returns-clause-free : goal.returns-clause-free
returns-clause-free c = let h = c.args.hand.now in let n = c.off.new.hand in
    (ap (λ xs. get_or xs c.args.processor false) (off_is (call_of h) c.args.processor c.in-Ok.element (view_of h) (view_of n) h.fresh h.valid n.valid c.in-Ok.ensures.trace.1).keeps.serves ∙ c.requires.mine, c.in-Ok.ensures.trace.1.1)

pub returns-clause-frame : goal.returns-clause-frame
returns-clause-frame c = let h = c.args.hand.now in let n = c.off.new.hand in (off_is (call_of h) c.args.processor c.in-Ok.element (view_of h) (view_of n) h.fresh h.valid n.valid c.in-Ok.ensures.trace.1).keeps

pub returns-clause-holds : goal.returns-clause-holds
returns-clause-holds c = let h = c.args.hand.now in let n = c.off.new.hand in c.in-Ok.ensures.trace.1.2

pub returns-clause-adds : goal.returns-clause-adds
returns-clause-adds c = let h = c.args.hand.now in let n = c.off.new.hand in (off_is (call_of h) c.args.processor c.in-Ok.element (view_of h) (view_of n) h.fresh h.valid n.valid c.in-Ok.ensures.trace.1).adds

pub returns-clause-steady : goal.returns-clause-steady
returns-clause-steady c = let h = c.args.hand.now in let n = c.off.new.hand in (off_is (call_of h) c.args.processor c.in-Ok.element (view_of h) (view_of n) h.fresh h.valid n.valid c.in-Ok.ensures.trace.1).steady
