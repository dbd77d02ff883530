-- A client's protocol: a condition on each end of a queue, by the lines that it put and took. The table's rule holds
-- together with the condition on each view.
use Rattle.std.specs.Prelude.{◌≡◌, ℕ, List, map}
use mathlib.Core.Option.{some}
use lib.ListN.{get_elem?}
use Rattle.atomic_table.specs.Table.{State}
use Rattle.table_theory.specs.declared.queues.Batch.{Batch}
use Rattle.table_theory.specs.Batches.{line_of}

-- a line, and the position of its first item
abbrev pub Placed : Type 0
Placed = ℕ × List ℕ

-- the lines of these runs, or of these takings, each with its position
abbrev pub placed_lines : List Batch → List Placed
placed_lines batches = map (λ e. (e.start, line_of e)) batches

-- the table's rule holds, and each view has the property Keeps
pub record HoldsWith {S V : Type 0} (Holds : State S V → Type 0) (Keeps : V → Type 0) (s : State S V) : Type 0 where
  pub rule : Holds s
  pub keeps : (j : ℕ) (v : V) → get_elem? s.views j ≡ some v → Keeps v

-- the view is one of a state in which the table's rule holds, and each view has the property Keeps
pub record IsKept {Key S V : Type 0} (Rule : Key → State S V → Type 0) (Keeps : V → Type 0) (v : V) : Type 0 where
  pub key : Key
  pub state : State S V
  pub holds : HoldsWith (Rule key) Keeps state
  pub number : ℕ
  pub here : get_elem? state.views number ≡ some v

-- a condition on an end, by the queue's first position and the lines that the end put and took
abbrev pub Condition : Type 1
Condition = ℕ → List Placed → List Placed → Type 0

-- the item is in a line that an end put, and the protocol allows what this end put and took
pub record WasPut (allows : Condition) (first item : ℕ) : Type 0 where
  pub puts : List Placed
  pub takes : List Placed
  pub allowed : allows first puts takes
  pub number : ℕ
  pub line : Placed
  pub is_there : get_elem? puts number ≡ some line
  pub index : ℕ
  pub is_item : get_elem? line.1 index ≡ some item
