use Rattle.turn_dispatch.proofs.Common.{take, view_of, call_of, IsSameHand, RaisedAll}
use Rattle.turn_dispatch.proofs.alarms.raise_signals.Given as goal

abbrev pub invariant-loop-alarm : goal.invariant-loop-alarm
invariant-loop-alarm l = IsSameHand l.fn.hand l.hand
    × RaisedAll (call_of l.fn.hand) (take l.alarm-index l.alarms) (view_of l.fn.hand) (view_of l.hand)
