use Rattle.turn_dispatch.proofs.Common.{view_of, call_of, ◌∙◌, false, get_or, ap}
use Rattle.turn_dispatch.proofs.Placed.{put_is}
use Rattle.turn_dispatch.proofs.placing.put_on.Goals as goal

pub returns-clause-there : goal.returns-clause-there
returns-clause-there c = let h = c.args.hand.now in let n = c.on.new.hand in
    (ap (λ xs. get_or xs c.args.processor false) (put_is (call_of h) c.args.processor c.args.element (view_of h) (view_of n) h.fresh h.valid n.valid c.in-Ok.ensures.trace.1).keeps.serves ∙ c.requires.free.0, c.in-Ok.ensures.trace.1.1)

pub returns-clause-frame : goal.returns-clause-frame
returns-clause-frame c = let h = c.args.hand.now in let n = c.on.new.hand in (put_is (call_of h) c.args.processor c.args.element (view_of h) (view_of n) h.fresh h.valid n.valid c.in-Ok.ensures.trace.1).keeps

pub returns-clause-holds : goal.returns-clause-holds
returns-clause-holds c = let h = c.args.hand.now in let n = c.on.new.hand in c.in-Ok.ensures.trace.1.2

pub returns-clause-adds : goal.returns-clause-adds
returns-clause-adds c = let h = c.args.hand.now in let n = c.on.new.hand in (put_is (call_of h) c.args.processor c.args.element (view_of h) (view_of n) h.fresh h.valid n.valid c.in-Ok.ensures.trace.1).adds

pub returns-clause-steady : goal.returns-clause-steady
returns-clause-steady c = let h = c.args.hand.now in let n = c.on.new.hand in (put_is (call_of h) c.args.processor c.args.element (view_of h) (view_of n) h.fresh h.valid n.valid c.in-Ok.ensures.trace.1).steady
