use Rattle.trace_events.proofs.Common.{refl, arith, missed_json}
use Rattle.trace_events.proofs.Growing.{alone_join, ended_text}
use Rattle.trace_events.proofs.events.missed_event.Goals as goal

pub returns : goal.returns
returns c =
    let timed = alone_join _ _ _ _ c.in_ok-out.ensures c.in_ok-put_time.ensures in
    let scoped = alone_join _ _ _ _ timed c.in_ok-put_text.ensures in
    let opened = alone_join _ _ _ _ scoped c.in_ok-open_args.ensures in
    let placed = alone_join _ _ _ _ opened c.in_ok-put_number.ensures in
    let counted = alone_join _ _ _ _ placed c.in_ok-put_number-2.ensures in
    ended_text c.end_args.result _ _ (missed_json c.args.track c.args.at c.args.processor c.args.missed) counted c.end_args.ensures refl (omega arith)
