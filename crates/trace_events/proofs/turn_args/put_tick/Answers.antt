use Rattle.trace_events.proofs.Growing.{grown_join, then_writes}
use Rattle.trace_events.proofs.turn_args.put_tick.Goals as goal

pub returns : goal.returns
returns c =
    let named = grown_join _ _ _ _ _ c.in_ok-put_gauge.ensures c.in_ok-put_number.ensures in
    then_writes c.put_number-2.result _ _ _ _ _ named c.put_number-2.ensures
