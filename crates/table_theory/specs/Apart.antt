-- Two lists of stretches without a common position.
use Rattle.std.specs.Prelude.{◌≡◌, ◌+◌, ◌<◌, ◌≤◌, ℕ, List, length}
use mathlib.Core.Option.{some}
use lib.ListN.{get_elem?}
use Rattle.table_theory.specs.declared.queues.Batch.{Batch}

-- the position is in the stretch
abbrev pub IsWithin : ℕ → Batch → Type 0
IsWithin position e = (e.start ≤ position) × (position < e.start + length e.places)

-- no position is both in a stretch of l and in a stretch of r
abbrev pub AreApart : List Batch → List Batch → Type 0
AreApart l r = (m n position : ℕ) (e f : Batch) → get_elem? l m ≡ some e → get_elem? r n ≡ some f
    → IsWithin position e → IsWithin position f → ⊥
