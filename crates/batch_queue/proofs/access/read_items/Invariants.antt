use Rattle.std.proofs.Common.{◌≡◌}
use Rattle.table_theory.specs.Seating.{IsSame}
use Rattle.batch_queue.proofs.Turning.{Reads}
use Rattle.batch_queue.proofs.access.read_items.Given as goal

abbrev pub invariant-loop-i : goal.invariant-loop-i
invariant-loop-i g l = record {
  same : IsSame l.initial.seat l.seat;
  view : l.seat.me.0 ≡ l.initial.seat.me.0;
  reads : Reads l.room l.start l.i l.count l.initial.seat.me.1 l.seat.me.1 l.initial.items l.items;
}
