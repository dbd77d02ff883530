-- A queue as the theory of tables has queues: by its positions. A place is written if its batch is published.
use Rattle.std.specs.Prelude.{ℕ, zero, suc, List, [], ◌∷◌}
use Rattle.table_theory.specs.declared.queues.Cell.{Cell}
use Rattle.table_theory.specs.declared.queues.Positions.{Positions}
use Rattle.table_theory.specs.Positioned.{fresh}
pub use Rattle.table_theory.specs.Raises.{raised_run, with_raises}
use Rattle.batch_queue.specs.declared.rule.BatchState.{BatchState}
use Rattle.batch_queue.specs.Object.{items_of}

abbrev pub cell_of : ℕ → ℕ → Cell
cell_of x zero = fresh x
cell_of x (suc p) = record { item = x; stage = 2 }

abbrev pub cells : List ℕ → List ℕ → List Cell
cells [] ps = []
cells (x ∷ xs) [] = fresh x ∷ cells xs []
cells (x ∷ xs) (p ∷ ps) = cell_of x p ∷ cells xs ps

abbrev pub positions_of : BatchState → Positions
positions_of o = record {
  first = 0;
  room = o.room;
  places = cells (items_of o) o.phases;
  taken = o.taken;
  shut = o.shut;
}
