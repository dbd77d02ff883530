use Rattle.pool.specs.Handles.{view_of, room_of, IsHolderOf, HoldsSame, SameShare}
use Rattle.pool.specs.Turns.{TurnsOf}
use Rattle.pool.proofs.workers.work.Given as goal

abbrev pub invariant-loop-done : goal.invariant-loop-done
invariant-loop-done g l = record {
  pool : IsHolderOf l.pool l.holder;
  same : HoldsSame l.initial.holder l.holder;
  share : SameShare l.initial.holder l.holder;
  turns : TurnsOf (room_of l.pool) 2 l.done (view_of l.initial.holder) (view_of l.holder);
}
