use Rattle.turn_dispatch.proofs.Common.{take, view_of, call_of, ◌∙◌}
use Rattle.turn_dispatch.proofs.Raised.{raised_again, taken_one}
use Rattle.turn_dispatch.proofs.alarms.raise_signals.Goals as goal

pub loop-alarm-preserved : goal.loop-alarm-preserved
loop-alarm-preserved c =
    let h = c.args.hand.now in
    let l = c.loop-alarm in
    let n = c.signal.new.hand in
    let i = l.invariant in
    let same = c.signal.ensures.handle in (
      (same.0 ∙ i.0.0, same.1 ∙ i.0.1),
      raised_again (call_of h) (call_of l.hand) (take l.alarm-index c.args.alarms.now) _ c.alarm-item.result c.signal.result (view_of h) (view_of l.hand) (view_of n) i.0.1
          (taken_one c.args.alarms.now l.alarm-index c.alarm-item.result c.loop-alarm-test.true c.alarm-item.is) i.1 c.signal.ensures.trace,
    )
