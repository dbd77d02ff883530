-- An end that has the whole is the only one that steps: its own steps are all, and it has seen all of them.
use Rattle.table_theory.proofs.Common.{◌≡◌, ◌≢◌, ℕ, zero, suc, ◌<◌, ◌≤◌, List, [], ◌∷◌, ◌++◌, map, length, length-append, sym, refl, ap, ◌∙◌, subst, arith, AllByRecursion, append-nil, length-map, some, some-injective, some-ne-none, dite, ℕ_discrete, get_elem?, Entry, Begins, Owned, entry_of, IsCourse, at_map}
use Rattle.table_theory.proofs.Owned.{at_map_back}

module _ {A : Type 0} where
  pub there_is : (l : List A) (k : ℕ) → k < length l → (x : A) × (get_elem? l k ≡ some x)
  there_is [] k h = absurd (omega arith)
  there_is (x ∷ xs) zero h = (x, refl)
  there_is (x ∷ xs) (suc k) h = there_is xs k (omega arith)

  -- what holds of all holds of each, and what holds of each holds of all
  pub each_of : (P : A → Type 0) (l : List A) (k : ℕ) (x : A) → AllByRecursion P l → get_elem? l k ≡ some x → P x
  each_of P [] k x a e = absurd (some-ne-none x (sym e))
  each_of P (y ∷ ys) zero x a e = subst P (some-injective y x e) a.0
  each_of P (y ∷ ys) (suc k) x a e = each_of P ys k x a.1 e

  pub all_of : (P : A → Type 0) (l : List A) → ((k : ℕ) (x : A) → get_elem? l k ≡ some x → P x) → AllByRecursion P l
  all_of P [] h = tt
  all_of P (x ∷ xs) h = (h 0 x refl, all_of P xs (λ k y e. h (suc k) y e))

  -- a list that begins another, which is no longer, is the other
  pub no_longer : (list later : List A) → Begins list later → length later ≤ length list → later ≡ list
  no_longer list later ([], is) short = sym is ∙ append-nil list
  no_longer list later (x ∷ xs, is) short = absurd (let a = length-append list (x ∷ xs) in let b : length (list ++ x ∷ xs) ≡ length later = ap length is in omega arith)

module _ {V O : Type 0} (f p : V → List (Entry O)) where
  -- if the lists of all others are empty, the end has seen all steps
  pub sole_course : (first now : O) (vs : List V) (j : ℕ) (v : V) (c : IsCourse f p first now vs) → get_elem? vs j ≡ some v → ((i : ℕ) (u : V) → get_elem? vs i ≡ some u → i ≢ j → f u ≡ []) → map entry_of c.course ≡ p v
  sole_course first now vs j v c at idle = no_longer (p v) (map entry_of c.course) (c.seen j v at) (let n = length-map c.course entry_of in let s = upto (length c.course) refl in omega arith)
    where
      -- the entry is the end's own, as all others have none
      mine : (k : ℕ) (o : Owned (Entry O)) → get_elem? c.course k ≡ some o → o.0 ≡ j
      mine k o has = let s = c.filed.stands k o has in let u = at_map_back f vs o.0 s.0 s.1 in dite (ℕ_discrete o.0 j) (λ e. e)
          (λ ne. absurd (some-ne-none o.2 (sym (subst (λ (z : List (Entry O)). get_elem? z o.1 ≡ some o.2) (sym u.2 ∙ idle o.0 u.0 u.1 ne) s.2))))

      upto : (n : ℕ) → length c.course ≡ n → length c.course ≤ length (p v)
      upto zero is = omega arith
      upto (suc n) is = let t = there_is c.course n (omega arith) in let below = c.own n t.0 v t.1 (subst (λ (z : ℕ). get_elem? vs z ≡ some v) (sym (mine n t.0 t.1)) at) in omega arith

  -- what holds of all steps holds of each end's own
  pub own_hold : (P : Entry O → Type 0) (first now : O) (vs : List V) (j : ℕ) (v : V) (c : IsCourse f p first now vs) → get_elem? vs j ≡ some v → AllByRecursion P (map entry_of c.course) → AllByRecursion P (f v)
  own_hold P first now vs j v c at all = all_of P (f v) (λ m e has. let l = c.filed.listed j (f v) m e (at_map f vs j v at) has in each_of P (map entry_of c.course) l.0 e all (at_map entry_of c.course l.0 (j, m, e) l.1))
