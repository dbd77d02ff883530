use Rattle.turn_dispatch.proofs.Common.{rules, view_of, call_of, RaisedAll}
use Rattle.turn_dispatch.proofs.Raised.{raised_only}
use Rattle.turn_dispatch.proofs.alarms.tend_alarms.Goals as goal

pub returns-clause-only : goal.returns-clause-only
returns-clause-only c = let h = c.args.hand.now in let n = c.raise_signals.new.hand in
    let all : RaisedAll (call_of h) c.take_due.new.fired.items (view_of h) (view_of n) = search rules in raised_only (call_of h) c.take_due.new.fired.items (view_of h) (view_of n) h.fresh h.valid n.valid all
