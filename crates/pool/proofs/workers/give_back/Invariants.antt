use Rattle.std.proofs.Common.{ℕ, length}
use Rattle.pool.specs.Handles.{view_of, room_of, IsHolderOf, HoldsSame, SameShare}
use Rattle.pool.specs.Turns.{RefusedPuts}
use Rattle.pool.proofs.workers.give_back.Given as goal

abbrev pub invariant-loop : goal.invariant-loop
invariant-loop g l = record {
  steps : (goal.iterator-loop g).can_next l.iterator' × (goal.iterator-loop g).is_finite l.iterator';
  pool : IsHolderOf l.pool l.holder;
  same : HoldsSame l.initial.holder l.holder;
  share : SameShare l.initial.holder l.holder;
  refused : (tries : ℕ) × RefusedPuts (room_of l.pool) (length l.buffers) tries (view_of l.initial.holder)
      (view_of l.holder);
}
