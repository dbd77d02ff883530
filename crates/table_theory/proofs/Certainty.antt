-- Facts that are certain if the ends' lists are true. The proof is cut off; what is cut off or decidable needs none.
use Rattle.table_theory.proofs.Common.{ℕ, List, [], ◌∷◌, AllByRecursion, EndState, Step, ObjectModel, ExtendsTrace, IsValidView, IsValidStep, Passes, Reaches, JoinedBy, both}
use Rattle.std.proofs.Math.Logic.{∥∥₁_elim, ∥∥₁_map}
use Rattle.table_theory.specs.Ledgers.{count_down}
use Rattle.table_theory.proofs.Reaching.{entries_real, passes_since, reaches_since, reaches_one, reaches_other}

module _ {K O : Type 0} (T : ObjectModel O) where
  -- the end's list is true
  abbrev pub Surely : EndState K O → Type 0
  Surely v = ∥ IsValidView T v ∥₁

  -- what both ends' lists make certain
  pub by_both : {X : Type 0} (v w : EndState K O) → Surely v → Surely w → IsProp X → (IsValidView T v → IsValidView T w → X) → X
  by_both v w a b prop f = ∥∥₁_elim a prop (λ (x : IsValidView T v). ∥∥₁_elim b prop (λ (y : IsValidView T w). f x y))

  pub surely_real : (v w : EndState K O) (entries : List (Step O)) → Surely w → ExtendsTrace v entries w → ∥ AllByRecursion (IsValidStep T) entries ∥₁
  surely_real v w entries b a = ∥∥₁_map b (λ (y : IsValidView T w). entries_real T v w entries y a)

  pub surely_pass : (v w : EndState K O) (entries : List (Step O)) → Surely v → Surely w → ExtendsTrace v entries w → ∥ Passes T v.seen entries w.seen ∥₁
  surely_pass v w entries a b adds = by_both v w a b squash₁ (λ x y. ∣ passes_since T v w entries x y adds ∣₁)

  pub surely_reach : (v w : EndState K O) (entries : List (Step O)) → Surely v → Surely w → ExtendsTrace v entries w → ∥ Reaches T v.seen w.seen ∥₁
  surely_reach v w entries a b adds = by_both v w a b squash₁ (λ x y. ∣ reaches_since T v w entries x y adds ∣₁)

  -- the same of an end that took in another
  module _ (plus : K → K → K) (word : ℕ) (v u w : EndState K O) (c : Surely w) (t : JoinedBy plus word v u w) where
    pub surely_joined : Surely v → Surely u → ∥ Reaches T v.seen w.seen ∥₁ × ∥ Reaches T u.seen w.seen ∥₁
    surely_joined a b = (by_both v w a c squash₁ (λ x z. ∣ reaches_one T plus word v u w x z t ∣₁), by_both u w b c squash₁ (λ y z. ∣ reaches_other T plus word v u w y z t ∣₁))

    pub surely_counted : ∥ IsValidStep T (count_down word t.found) ∥₁
    surely_counted = ∥∥₁_map c (λ (z : IsValidView T w). (entries_real T (both plus v u) w (count_down word t.found ∷ []) z t.adds).0)
