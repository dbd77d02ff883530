-- The steps of all ends of an object, in their order.
use Rattle.std.specs.Prelude.{◌≡◌, ℕ, List, [], ◌∷◌, ◌<◌, map, length}
use mathlib.Core.Option.{some}
use lib.ListN.{get_elem?}
use Rattle.table_theory.specs.declared.views.Entry.{Entry}
use Rattle.table_theory.specs.Ends.{Begins}
use Rattle.table_theory.specs.Filing.{Owned, entry_of, ListedOnce}

-- each step finds the object as the step before it left it; the steps lead from the first object to the last
abbrev pub Continues : {O : Type 0} → O → List (Entry O) → O → Type 0
Continues first [] last = first ≡ last
Continues first (e ∷ es) last = (first ≡ e.then) × Continues e.next es last

-- The steps of all ends, each in one end's list, lead from the first object to the object as it is now. Each end has
-- seen a beginning of this order, which has all the end's own steps
pub record IsCourse {V O : Type 0} (steps_of course_of : V → List (Entry O)) (first now : O) (views : List V)
    : Type 0 where
  pub course : List (Owned (Entry O))
  pub filed : ListedOnce course (map steps_of views)
  pub continues : Continues first (map entry_of course) now
  pub seen : (j : ℕ) (v : V) → get_elem? views j ≡ some v → Begins (course_of v) (map entry_of course)
  pub own : (k : ℕ) (o : Owned (Entry O)) (v : V) → get_elem? course k ≡ some o → get_elem? views o.0 ≡ some v
      → k < length (course_of v)
