-- The gate, the runner, the notifies owed, and where the quaject is.
use Rattle.std.specs.Prelude.{◌≡◌, ◌≢◌, ℕ, ◌≤◌, true, false, List, [], ◌∷◌}
use mathlib.Core.Option.{Option, some, none}
use lib.ListN.{get_elem?}
use Rattle.table_theory.specs.declared.queues.Batch.{Batch}
use Rattle.table_theory.specs.declared.queues.Positions.{Positions}
use Rattle.table_theory.specs.Positioned.{stage_at, tail_of}
use Rattle.proc_chain.specs.Own.{View}
use Rattle.proc_chain.specs.declared.layout.TheConstants.{IDLE, RUNNING, MORE}
use Rattle.proc_chain.specs.Shown.{notes_of}

-- the end that owns the run at the tail owes a notify
pub record IsOwed (q : Positions) (views : List View) : Type 0 where
  pub owner : ℕ
  pub view : View
  pub is_view : get_elem? views owner ≡ some view
  pub owes : view.own.owes ≡ true
  pub number : ℕ
  pub run : Batch
  pub has : get_elem? view.own.runs number ≡ some run
  pub start : run.start ≡ tail_of q

-- if the first note left is raised, the end that owns its run owes a notify
abbrev pub IsSettled : Positions → List View → Type 0
IsSettled q views = 2 ≤ stage_at q q.taken → IsOwed q views

-- some end has the turn
pub record HasRunner (views : List View) : Type 0 where
  pub number : ℕ
  pub view : View
  pub is_view : get_elem? views number ≡ some view
  pub runner : view.own.runner ≡ true

-- If the gate is not Idle one end has the turn, and knows how many notes were taken; if it is Idle no end has the turn.
-- A raised first note has a notify owed if the gate is Idle, or Running and the runner has seen that none was raised
pub record GateShows (q : Positions) (gate : ℕ) (views : List View) : Type 0 where
  pub bounded : gate ≤ MORE
  pub runs : gate ≢ IDLE → HasRunner views
  pub still : gate ≡ IDLE → (j : ℕ) (v : View) → get_elem? views j ≡ some v → v.own.runner ≡ false
  pub sole : (i j : ℕ) (u v : View) → get_elem? views i ≡ some u → get_elem? views j ≡ some v → u.own.runner ≡ true
      → v.own.runner ≡ true → i ≡ j
  pub takes : (j : ℕ) (v : View) → get_elem? views j ≡ some v → v.own.runner ≡ true
      → v.seen.object.queue.taken ≡ q.taken
  pub counts : (j : ℕ) (v : View) → get_elem? views j ≡ some v → v.own.runner ≡ true → v.own.taken ≡ q.taken
  pub idle : gate ≡ IDLE → IsSettled q views
  pub seen : (j : ℕ) (v : View) → get_elem? views j ≡ some v → v.own.runner ≡ true → v.own.saw ≡ true
      → gate ≡ RUNNING → IsSettled q views

-- If the gate is Idle the quaject is in the slot, was made by the notes taken, and suits the chain. Else an end holds
-- the slot
pub record SlotShows {Q W : Type 0} (made : W → Q → List ℕ → Type 0) (fits : W → Q → Type 0) (pact : W) (q : Positions)
    (gate : ℕ) (homes : List (Option Q)) : Type 0 where
  pub home : gate ≡ IDLE → (x : Q) × (homes ≡ some x ∷ []) × made pact x (notes_of q) × fits pact x
  pub held : gate ≢ IDLE → homes ≡ none ∷ []
