use Rattle.trace_events.proofs.Growing.{grown_join, then_writes}
use Rattle.trace_events.proofs.events.put_head.Goals as goal

pub returns : goal.returns
returns c =
    let named = grown_join _ _ _ _ _ c.in_ok-put_text.ensures c.in_ok-put_text-2.ensures in
    let phased = grown_join _ _ _ _ _ named c.in_ok-put_text-3.ensures in
    let placed = grown_join _ _ _ _ _ phased c.in_ok-put_number.ensures in
    then_writes c.put_number-2.result _ _ _ _ _ placed c.put_number-2.ensures
