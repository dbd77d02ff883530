use Rattle.batch_queue.proofs.Common.{Grows, IsSame, IsSeated, Stays, ◌≡◌, ◌≤◌}
use Rattle.std.proofs.Common.{◌-◌}
use Rattle.batch_queue.specs.Walks.{Passed, Starts}
use Rattle.batch_queue.proofs.Walking.{Follows}
use Rattle.batch_queue.proofs.walk.walk.Given as goal

abbrev pub invariant-loop-at : goal.invariant-loop-at
invariant-loop-at g l = record {
  same : IsSame l.initial.seat l.seat;
  stays : Stays l.initial.seat.me.0 l.seat.me.0;
  grows : Grows l.initial.seat.me.0.seen.object l.seat.me.0.seen.object;
  slots : l.seat.me.1 ≡ l.initial.seat.me.1;
  seated : IsSeated l.room l.words.table_id l.seat;
  on : l.from ≤ l.at;
  most : l.at ≤ l.most;
  starts : Starts l.parity l.seat.me.0 l.base;
  passed : Passed l.parity l.seat.me.0 l.base l.at;
  follows : Follows l.parity l.most l.room l.from l.at l.initial.seat.me.0 l.seat.me.0;
}

abbrev pub decreases-loop-at : goal.decreases-loop-at
decreases-loop-at g l = l.most - l.at
