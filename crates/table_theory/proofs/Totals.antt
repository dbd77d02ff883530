-- Sums over a list.
use Rattle.table_theory.proofs.Common.{◌≡◌, ℕ, suc, zero, ◌+◌, ◌≤◌, ◌≢◌, List, [], ◌∷◌, ◌++◌, set, sym, refl, ap, arith, some, some-injective, some-ne-none, get_elem?, total}

module _ {V : Type 0} (f : V → ℕ) where
  pub total_set : (vs : List V) (j : ℕ) (v w : V) → get_elem? vs j ≡ some v → total f (set vs j w) + f v ≡ total f vs + f w
  total_set [] j v w e = absurd (some-ne-none v (sym e))
  total_set (x ∷ xs) zero v w e = let h : f x ≡ f v = ap f (some-injective x v e) in omega arith
  total_set (x ∷ xs) (suc j) v w e = let h = total_set xs j v w e in omega arith

  -- the total is unchanged if one entry's count is
  pub total_kept : (vs : List V) (j : ℕ) (v w : V) → get_elem? vs j ≡ some v → f w ≡ f v → total f (set vs j w) ≡ total f vs
  total_kept vs j v w at e = let t = total_set vs j v w at in omega arith

  pub total_push : (vs : List V) (w : V) → total f (vs ++ w ∷ []) ≡ total f vs + f w
  total_push [] w = omega arith
  total_push (x ∷ xs) w = let h = total_push xs w in omega arith

  -- one becomes two, of which one counts nothing
  pub total_split : (vs : List V) (j : ℕ) (v left right : V) → get_elem? vs j ≡ some v → f left ≡ f v → f right ≡ 0 → total f (set vs j left ++ right ∷ []) ≡ total f vs
  total_split vs j v left right at same none = let t = total_kept vs j v left at same in let p = total_push (set vs j left) right in omega arith

  -- one becomes two together, and the other counts nothing
  pub total_join : (vs : List V) (j k : ℕ) (v u both spent : V) → get_elem? vs j ≡ some v → get_elem? (set vs j both) k ≡ some u → f both ≡ f v + f u → f spent ≡ 0 → total f (set (set vs j both) k spent) ≡ total f vs
  total_join vs j k v u both spent at has sum none = let t = total_set vs j v both at in let t' = total_set (set vs j both) k u spent has in omega arith

  pub one_of : (vs : List V) (j : ℕ) (v : V) → get_elem? vs j ≡ some v → f v ≤ total f vs
  one_of [] j v e = absurd (some-ne-none v (sym e))
  one_of (x ∷ xs) zero v e = let h : f x ≡ f v = ap f (some-injective x v e) in omega arith
  one_of (x ∷ xs) (suc j) v e = let h = one_of xs j v e in omega arith

  pub two_of : (vs : List V) (i j : ℕ) (v w : V) → get_elem? vs i ≡ some v → get_elem? vs j ≡ some w → i ≢ j → f v + f w ≤ total f vs
  two_of [] i j v w e d n = absurd (some-ne-none v (sym e))
  two_of (x ∷ xs) zero zero v w e d n = absurd (n refl)
  two_of (x ∷ xs) zero (suc j) v w e d n = let h : f x ≡ f v = ap f (some-injective x v e) in let g = one_of xs j w d in omega arith
  two_of (x ∷ xs) (suc i) zero v w e d n = let h : f x ≡ f w = ap f (some-injective x w d) in let g = one_of xs i v e in omega arith
  two_of (x ∷ xs) (suc i) (suc j) v w e d n = let h = two_of xs i j v w e d (λ z. n (ap suc z)) in omega arith

  no_total : (vs : List V) → ((i : ℕ) (u : V) → get_elem? vs i ≡ some u → f u ≡ 0) → total f vs ≡ 0
  no_total [] none = refl
  no_total (x ∷ xs) none = let h = none 0 x refl in let t = no_total xs (λ i u has. none (suc i) u has) in omega arith

  -- one alone counts
  pub sole_total : (vs : List V) (j : ℕ) (v : V) → get_elem? vs j ≡ some v → ((i : ℕ) (u : V) → get_elem? vs i ≡ some u → i ≢ j → f u ≡ 0) → total f vs ≡ f v
  sole_total [] j v e none = absurd (some-ne-none v (sym e))
  sole_total (x ∷ xs) zero v e none = let h : f x ≡ f v = ap f (some-injective x v e) in let z = no_total xs (λ i u has. none (suc i) u has (λ t. omega arith)) in omega arith
  sole_total (x ∷ xs) (suc j) v e none = let h = none 0 x refl (λ t. omega arith) in let t = sole_total xs j v e (λ i u has ne. none (suc i) u has (λ z. ne (omega arith))) in omega arith

-- what is no more at each is no more together
pub total_below : {V : Type 0} (f g : V → ℕ) (vs : List V) → ((j : ℕ) (v : V) → get_elem? vs j ≡ some v → f v ≤ g v) → total f vs ≤ total g vs
total_below f g [] le = omega arith
total_below f g (x ∷ xs) le = let h = le 0 x refl in let t = total_below f g xs (λ j v at. le (suc j) v at) in omega arith
