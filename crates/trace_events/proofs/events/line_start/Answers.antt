use Rattle.trace_events.proofs.Common.{refl, arith, line_start_json}
use Rattle.trace_events.proofs.Growing.{alone_join, alone_text}
use Rattle.trace_events.proofs.events.line_start.Goals as goal

pub returns : goal.returns
returns c =
    let numbered = alone_join _ _ _ _ c.in_ok-out.ensures c.in_ok-put_number.ensures in
    let timed = alone_join _ _ _ _ numbered c.in_ok-put_time.ensures in
    let closed = alone_join _ _ _ _ timed c.in_ok-close.ensures in
    alone_text _ _ _ (line_start_json c.args.id c.args.track c.args.time) closed c.into_inner.ensures.items refl (omega arith)
