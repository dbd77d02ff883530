-- Lists with the same entries, in another order.
use Rattle.thread_table.proofs.Common.{◌≡◌, ℕ, zero, suc, ◌<◌, Bool, true, eqb, eq-eqb, List, [], ◌∷◌, ◌++◌, map, length, get_or, refl, sym, ap, ◌∙◌, subst, arith, IsPermutation, ext_get_or, length-map-range_with_len, get_or-map-range_with_len, there_is, eqb-true, range_with_len, some, some-injective, some-ne-none, dite, dec_lt, get_elem?, at_map, Owned, entry_of, at_below, at_map_back}
use Rattle.std.proofs.Common.{count_by}
use Rattle.std.proofs.lemmas.List.Sorted.{IsPermutation-refl, IsPermutation-trans, IsPermutation-middle, IsPermutation-cons, IsPermutation-map}
use Rattle.table_theory.specs.Filing.{ListedOnce}
use Rattle.thread_table.proofs.Lists.Counts.{plus, many_cons, many_more, many_none, many_one, find_it, range_in, range_far}

module _ {A : Type 0} where
  -- Lists in which each entry is equally often
  pub same_counts : (same : A → A → Bool) → ((a b : A) → same a b ≡ true → a ≡ b) → ((a : A) → same a a ≡ true)
      → (xs ys : List A) → ((x : A) → count_by (same x) xs ≡ count_by (same x) ys) → IsPermutation ys xs
  same_counts same reports itself [] [] h = IsPermutation-refl []
  same_counts same reports itself [] (y ∷ ys) h =
      let c = many_cons (same y) y ys in let a : plus (same y y) ≡ 1 = ap plus (itself y) in let e = h y in absurd (omega arith)
  same_counts same reports itself (x ∷ xs) ys h =
      let c = many_cons (same x) x xs in let a : plus (same x x) ≡ 1 = ap plus (itself x) in let e = h x in
      let f = find_it (same x) ys (omega arith) in
      let it : x ≡ f.it = reports x f.it f.passes in
      let is : ys ≡ f.front ++ x ∷ f.back = f.is ∙ ap (λ z. f.front ++ z ∷ f.back) (sym it) in
      let rest : (z : A) → count_by (same z) xs ≡ count_by (same z) (f.front ++ f.back) = λ z.
      let p = many_cons (same z) x xs in let q = many_more (same z) f.front (x ∷ f.back) in let r = many_cons (same z) x f.back in
      let s = many_more (same z) f.front f.back in let t = h z in let u : count_by (same z) ys ≡ count_by (same z) (f.front ++ x ∷ f.back) = ap (count_by (same z)) is in omega arith in
      let ih = same_counts same reports itself xs (f.front ++ f.back) rest in
      subst (λ z. IsPermutation z (x ∷ xs)) (sym is) (IsPermutation-trans (f.front ++ x ∷ f.back) (x ∷ (f.front ++ f.back)) (x ∷ xs)
      (IsPermutation-middle f.front x f.back) (IsPermutation-cons x (f.front ++ f.back) xs ih))

module _ {A : Type 0} where
  pub at_get : (l : List A) (i : ℕ) (x d : A) → get_elem? l i ≡ some x → get_or l i d ≡ x
  at_get [] i x d at = absurd (some-ne-none x (sym at))
  at_get (y ∷ l) zero x d at = some-injective y x at
  at_get (y ∷ l) (suc i) x d at = at_get l i x d at

  -- what an entry's number names
  by_numbers : (log : List (Owned A)) (f : ℕ → A) → ((k : ℕ) (o : Owned A) → get_elem? log k ≡ some o → f o.1 ≡ o.2) → map f (map (λ (o : Owned A). o.1) log) ≡ map entry_of log
  by_numbers [] f h = refl
  by_numbers (o ∷ os) f h = λ k. h 0 o refl k ∷ by_numbers os f (λ i p at. h (suc i) p at) k

  of_first : (l k : List A) (c m : ℕ) (x : A) → get_elem? {A = List A} (l ∷ []) c ≡ some k → get_elem? k m ≡ some x → (c ≡ 0) × (get_elem? l m ≡ some x)
  of_first l k zero m x has is = (refl, subst (λ (z : List A). get_elem? z m ≡ some x) (sym (some-injective l k has)) is)
  of_first l k (suc c) m x has is = absurd (some-ne-none k (sym has))

  numbers_perm : (log : List (Owned A)) (l : List A) → ListedOnce log (l ∷ []) → IsPermutation (range_with_len 0 (length l)) (map (λ (o : Owned A). o.1) log)
  numbers_perm log l f =
      let first : (k : ℕ) (o : Owned A) → get_elem? log k ≡ some o → (o.0 ≡ 0) × (get_elem? l o.1 ≡ some o.2) = λ k o at. let s = f.stands k o at in of_first l s.0 o.0 o.1 o.2 s.1 s.2 in
      same_counts eqb eqb-true (λ a. eq-eqb a a refl) (map (λ (o : Owned A). o.1) log) (range_with_len 0 (length l)) (λ m. dite (dec_lt m (length l))
      (λ low. let t = there_is l m low in let r = f.listed 0 l m t.0 refl t.1 in
      many_one (eqb m) (map (λ (o : Owned A). o.1) log) r.0 m (at_map (λ (o : Owned A). o.1) log r.0 (0, m, t.0) r.1) (eq-eqb m m refl)
      (λ i j y z at at' up up'. let a = at_map_back (λ (o : Owned A). o.1) log i y at in let b = at_map_back (λ (o : Owned A). o.1) log j z at' in
      f.once i j a.0 b.0 a.1 b.1 ((first i a.0 a.1).0 ∙ sym (first j b.0 b.1).0) (a.2 ∙ sym (eqb-true m y up) ∙ eqb-true m z up' ∙ sym b.2))
      ∙ sym (range_in 0 (length l) m (omega arith) (omega arith)))
      (λ not_low. many_none (eqb m) (map (λ (o : Owned A). o.1) log) (λ k x at up. let a = at_map_back (λ (o : Owned A). o.1) log k x at in
      let b : a.0.1 < length l = at_below l a.0.1 a.0.2 (first k a.0 a.1).1 in let e : m ≡ a.0.1 = eqb-true m x up ∙ sym a.2 in not_low (omega arith))
      ∙ sym (range_far 0 (length l) m (omega (arith, not_low)))))

  -- a list that is filed once has the entries of the log
  pub filed_shuffle : (log : List (Owned A)) (l : List A) → ListedOnce log (l ∷ []) → IsPermutation l (map entry_of log)
  filed_shuffle [] [] f = IsPermutation-refl []
  filed_shuffle (o ∷ os) [] f = let s = f.stands 0 o refl in absurd (some-ne-none o.2 (sym (of_first [] s.0 o.0 o.1 o.2 s.1 s.2).1))
  filed_shuffle log (x ∷ l) f =
      let g : ℕ → A = λ m. get_or (x ∷ l) m x in
      let p = IsPermutation-map g (range_with_len 0 (length (x ∷ l))) (map (λ (o : Owned A). o.1) log) (numbers_perm log (x ∷ l) f) in
      let a : map g (range_with_len 0 (length (x ∷ l))) ≡ x ∷ l = ext_get_or x (map g (range_with_len 0 (length (x ∷ l)))) (x ∷ l) (length-map-range_with_len g 0 (length (x ∷ l)))
      (λ i low. get_or-map-range_with_len g 0 (length (x ∷ l)) i i x (let n = length-map-range_with_len g 0 (length (x ∷ l)) in omega arith) (omega arith)) in
      let b : map g (map (λ (o : Owned A). o.1) log) ≡ map entry_of log = by_numbers log g (λ k o at. let s = f.stands k o at in at_get (x ∷ l) o.1 o.2 x (of_first (x ∷ l) s.0 o.0 o.1 o.2 s.1 s.2).1) in
      subst (λ z. IsPermutation z (map entry_of log)) a (subst (λ z. IsPermutation (map g (range_with_len 0 (length (x ∷ l)))) z) b p)
