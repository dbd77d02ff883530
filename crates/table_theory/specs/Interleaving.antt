-- Several lists, and one order of all their entries.
use Rattle.std.specs.Prelude.{◌≡◌, ◌<◌, ℕ, List, [], ◌∷◌, ◌++◌, length, slice_set}
use mathlib.Core.Option.{some}
use lib.ListN.{get_elem?}
use Rattle.table_theory.specs.declared.queues.Batch.{Batch}

-- each stretch has a later start than every stretch before it
abbrev pub Ascending : List Batch → Type 0
Ascending l = (m n : ℕ) (e f : Batch) → get_elem? l m ≡ some e → get_elem? l n ≡ some f → m < n → e.start < f.start

-- the stretches ascend, and each has at least one place
abbrev pub InOrder : List Batch → Type 0
InOrder l = Ascending l × ((m : ℕ) (e : Batch) → get_elem? l m ≡ some e → 0 < length e.places)

-- the lists, one after the other
abbrev pub joined : {A : Type 0} → List (List A) → List A
joined [] = []
joined (l ∷ lists) = l ++ joined lists

-- the order takes one entry after another, each from the front of one of the lists, until all lists are empty
abbrev pub Interleaves : {A : Type 0} → List A → List (List A) → Type 0
Interleaves {A} [] lists = (k : ℕ) (l : List A) → get_elem? lists k ≡ some l → l ≡ []
Interleaves {A} (x ∷ order) lists = (k : ℕ) × (rest : List A) × (get_elem? lists k ≡ some (x ∷ rest))
    × Interleaves order (slice_set lists k rest)
