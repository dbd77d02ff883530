-- The tags that are left in the places of a closed queue, and the tags of a pool that is closed.
use Rattle.tags.proofs.Common.{◌≡◌, ℕ, zero, suc, ◌+◌, ◌<◌, List, [], ◌∷◌, ◌++◌, ◌∙◌, map, length, take, get_or, sym, ap, subst, arith, Option, Some, None, length-map}
use Rattle.std.proofs.lemmas.Option.{none-some}

item_or : Option ℕ → ℕ
item_or None = 0
item_or (Some x) = x

item_is : (t tag : ℕ) → ◌≡◌ {A = Option ℕ} (Some t) (Some tag) → t ≡ tag
unfolding item_or
item_is t tag is = ap item_or is

take_one : (tags : List ℕ) (i tag : ℕ) → i < length tags → ◌≡◌ {A = Option ℕ} (get_or (map Some tags) i None) (Some tag) → take i tags ++ tag ∷ [] ≡ take (suc i) tags
take_one [] i tag below is = absurd (omega arith)
take_one (t ∷ tags) zero tag below is = ap (λ (z : ℕ). z ∷ []) (sym (item_is t tag is))
take_one (t ∷ tags) (suc i) tag below is = ap (λ (z : List ℕ). t ∷ z) (take_one tags i tag (omega arith) is)

no_gap : (tags : List ℕ) (i : ℕ) → i < length tags → ◌≡◌ {A = Option ℕ} (get_or (map Some tags) i None) None → ⊥
no_gap [] i below is = omega arith
no_gap (t ∷ tags) zero below is = none-some t (sym is)
no_gap (t ∷ tags) (suc i) below is = no_gap tags i (omega arith) is

module _ (left items : List (Option ℕ)) (i : ℕ) (same : items ≡ left) (below : i < length items) (tags : List ℕ) (are : left ≡ map Some tags) where
  within : i < length tags
  within = let a = ap length (same ∙ are) in let b = length-map tags Some in omega arith

  -- one place more has its tag
  pub more_left : (old new : List ℕ) (tag : ℕ) → ◌≡◌ {A = Option ℕ} (get_or items i None) (Some tag) → new ≡ old ++ tag ∷ [] → old ≡ take i tags → new ≡ take (i + 1) tags
  more_left old new tag here more so_far =
      let at : ◌≡◌ {A = Option ℕ} (get_or (map Some tags) i None) (Some tag) = subst (λ (z : List (Option ℕ)). ◌≡◌ {A = Option ℕ} (get_or z i None) (Some tag)) (same ∙ are) here in
      let e : suc i ≡ i + 1 = omega arith in more ∙ (ap (λ (z : List ℕ). z ++ tag ∷ []) so_far ∙ (take_one tags i tag within at ∙ ap (λ (z : ℕ). take z tags) e))

  -- no place has none
  pub none_left : ◌≡◌ {A = Option ℕ} (get_or items i None) None → ⊥
  none_left here = no_gap tags i within (subst (λ (z : List (Option ℕ)). ◌≡◌ {A = Option ℕ} (get_or z i None) None) (same ∙ are) here)
