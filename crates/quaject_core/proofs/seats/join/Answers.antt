use Rattle.quaject_core.proofs.Common.{option_map, arith, join_hold}
use Rattle.quaject_core.proofs.Lists.Mapped.{mapped_set}
use Rattle.quaject_core.proofs.seats.join.Goals as goal

pub loop-seat-preserved : goal.loop-seat-preserved
loop-seat-preserved c =
    mapped_set (option_map (join_hold c.args.call c.args.other)) c.loop-seat.seat-index c.args.processors.now c.loop-seat.processors _ c.seat-item.result c.loop-seat.invariant
    c.join_seat.ensures (omega arith)
