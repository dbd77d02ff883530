use Rattle.trace_events.proofs.Growing.{alone_join, opened_for}
use Rattle.trace_events.proofs.events.begin_turn.Goals as goal

pub returns : goal.returns
returns c =
    let from = alone_join _ _ _ _ c.in_ok-out.ensures c.in_ok-put_time.ensures in
    let until = alone_join _ _ _ _ from c.in_ok-put_time-2.ensures in
    opened_for c.args.name.now c.args.track c.args.from c.args.until _ _ c.saturating_sub.ensures (alone_join _ _ _ _ until c.in_ok-open_args.ensures)
