-- The views' parts list a queue: which end claimed each run, and which end took which places.
use Rattle.std.specs.Prelude.{◌≡◌, ◌==◌, if◌then◌else◌, ℕ, suc, ◌+◌, ◌<◌, ◌≤◌, List, [], ◌∷◌, ◌++◌, map, length, take}
use Rattle.std.specs.Prelude.{slice_index_or, slice_set}
use mathlib.Core.Option.{some}
use lib.ListN.{get_elem?}
use Rattle.table_theory.specs.declared.queues.Cell.{Cell}
use Rattle.table_theory.specs.declared.queues.Batch.{Batch}
use Rattle.table_theory.specs.declared.queues.Positions.{Positions}
use Rattle.table_theory.specs.declared.queues.QueueView.{QueueView}
use Rattle.table_theory.specs.Positioned.{blank, Grows}
use Rattle.table_theory.specs.Filing.{Owned, ListedOnce}

-- all places of the log, in order
abbrev pub all_places : List (Owned Batch) → List Cell
all_places [] = []
all_places (o ∷ os) = o.2.places ++ all_places os

-- the first stretch starts at p, and each other one where the one before it ends
abbrev pub Adjacent : ℕ → List (Owned Batch) → Type 0
Adjacent p [] = Unit {0}
Adjacent p (o ∷ os) = (o.2.start ≡ p) × Adjacent (p + length o.2.places) os

abbrev pub runs_of : QueueView → List Batch
runs_of v = v.runs

abbrev pub takes_of : QueueView → List Batch
takes_of v = v.takes

-- each entry of the log has a place
abbrev pub IsSolid : List (Owned Batch) → Type 0
IsSolid log = (k : ℕ) (o : Owned Batch) → get_elem? log k ≡ some o → 0 < length o.2.places

-- the log has these places, side by side from this position on, and each entry is listed once, by its end
pub record IsListed (first : ℕ) (places : List Cell) (log : List (Owned Batch)) (lists : List (List Batch))
    : Type 0 where
  pub solid : IsSolid log
  pub flat : all_places log ≡ places
  pub adjacent : Adjacent first log
  pub filed : ListedOnce log lists

-- There is a log of all runs and one of all takings, each side by side from the first position. Each entry is listed
-- once, by its end
pub record PartsShow (q : Positions) (parts : List QueueView) : Type 0 where
  pub runs : List (Owned Batch)
  pub takes : List (Owned Batch)
  pub runs_are : IsListed q.first q.places runs (map runs_of parts)
  pub takes_are : IsListed q.first (take q.taken q.places) takes (map takes_of parts)

-- the parts list the queue, and each end has seen this queue or an earlier state of it
pub record ViewsShow (q : Positions) (parts : List QueueView) : Type 0 where
  pub lists : PartsShow q parts
  pub seen : (j : ℕ) (v : QueueView) → get_elem? parts j ≡ some v → Grows v.queue q

-- the stretch, with n steps of writing done at its place i
abbrev pub with_stage : Batch → ℕ → ℕ → Batch
with_stage e i n = record {
  start = e.start;
  places = slice_set e.places i (record { item = (slice_index_or e.places i blank).item; stage = n });
}

-- all places of the runs are raised
abbrev pub AllRaised : List Batch → Type 0
AllRaised l = (m : ℕ) (e : Batch) → get_elem? l m ≡ some e → (i : ℕ) → i < length e.places
    → 2 ≤ (slice_index_or e.places i blank).stage

-- no two runs of a list have the same start
abbrev pub Distinct : List Batch → Type 0
Distinct l = (m n : ℕ) (e f : Batch) → get_elem? l m ≡ some e → get_elem? l n ≡ some f → e.start ≡ f.start → m ≡ n

-- the index of the first run with this start, or the length of the list if there is none
abbrev pub number_of : ℕ → List Batch → ℕ
number_of start [] = 0
number_of start (e ∷ es) = if e.start == start then 0 else suc (number_of start es)
