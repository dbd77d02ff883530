-- The steps of several ends in one order, however the ends are counted.
use Rattle.std.specs.Prelude.{◌≡◌, ℕ, List, map}
use Rattle.std.specs.List.{AllByRecursion}
use mathlib.Core.Option.{some}
use lib.ListN.{get_elem?}
use Rattle.table_theory.specs.declared.views.AbsState.{AbsState}
use Rattle.table_theory.specs.declared.views.EndState.{EndState}
use Rattle.table_theory.specs.Courses.{Continues, IsCourse}
use Rattle.table_theory.specs.Ends.{Begins}
use Rattle.table_theory.specs.Filing.{entry_of}
use Rattle.table_theory.specs.Ledgers.{ObjectModel, IsValidStep, opened}

-- The ends' steps, all real, lead in one order from the first object to this moment. Each end has seen a beginning of
-- the order, with all its own steps, and the object as this beginning left it
pub record AreOrdered {K O : Type 0} (subject : ObjectModel O) (first : O) (now : AbsState O)
    (views : List (EndState K O)) : Type 0 where
  pub course : IsCourse (λ v. v.steps) (λ v. v.course) (opened first) now views
  pub real : AllByRecursion (IsValidStep subject) (map entry_of course.course)
  pub first_is : (j : ℕ) (v : EndState K O) → get_elem? views j ≡ some v → v.first ≡ first
  pub seen : (j : ℕ) (v : EndState K O) → get_elem? views j ≡ some v → Continues (opened first) v.course v.seen
  pub joined : (j : ℕ) (v : EndState K O) → get_elem? views j ≡ some v → Begins v.joined (map entry_of course.course)
  pub joined_first : (j : ℕ) (v : EndState K O) → get_elem? views j ≡ some v → v.joined_first ≡ first
