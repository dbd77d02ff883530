use Rattle.std.proofs.Common.{◌≡◌}
use Rattle.table_theory.specs.Seating.{IsSame}
use Rattle.batch_queue.proofs.Turning.{Writes}
use Rattle.batch_queue.proofs.access.write_items.Given as goal

abbrev pub invariant-loop-i : goal.invariant-loop-i
invariant-loop-i g l = record {
  same : IsSame l.initial.seat l.seat;
  view : l.seat.me.0 ≡ l.initial.seat.me.0;
  writes : Writes l.room l.start l.i l.items l.seat.me.1;
}
