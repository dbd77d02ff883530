-- How many of a list pass a test.
use Rattle.thread_table.proofs.Common.{◌≡◌, ◌≢◌, ⊎_elim, ℕ, zero, suc, ◌+◌, ◌<◌, ◌≤◌, Bool, true, false, cond, eqb, eq-eqb, ne_eqb, List, [], ◌∷◌, ◌++◌, refl, sym, ap, ◌∙◌, arith, IsPermutation, length, subst, nat_lt, range_with_len, list_any, sum_by-cons, sum_by-append, sum_by-IsPermutation, some, dite, dec_lt, get_elem?, total, two_of}
use Rattle.std.proofs.Common.{count_by}
use Rattle.table_theory.proofs.Owned.{at_after}
use Rattle.std.proofs.lemmas.Bool.{ltb-true}
use Rattle.std.specs.Prelude.{◌||◌}
use Rattle.std.proofs.lemmas.Bool.Decides.{leb_tells}
use Rattle.table_theory.proofs.Totals.{sole_total}

abbrev pub plus : Bool → ℕ
plus b = cond b 1 0

pub by_bool : {P : Type 0} (b : Bool) → (b ≡ true → P) → (b ≡ false → P) → P
by_bool true f g = f refl
by_bool false f g = g refl

pub is_less : (a b : ℕ) → a < b → nat_lt a b ≡ true
is_less a b low = ⊎_elim (λ t. t.0) (λ f. absurd (let h = f.1 in omega arith)) (leb_tells (suc a) b)

module _ {A : Type 0} where
  pub many_cons : (p : A → Bool) (x : A) (xs : List A) → count_by p (x ∷ xs) ≡ plus (p x) + count_by p xs
  many_cons p x xs = sum_by-cons (λ y. cond (p y) 1 0) x xs

  pub many_more : (p : A → Bool) (xs ys : List A) → count_by p (xs ++ ys) ≡ count_by p xs + count_by p ys
  many_more p xs ys = sum_by-append (λ y. cond (p y) 1 0) xs ys

  -- another order has as many
  pub many_shuffled : (p : A → Bool) (xs ys : List A) → IsPermutation xs ys → count_by p ys ≡ count_by p xs
  many_shuffled p xs ys h = sum_by-IsPermutation (λ x. cond (p x) 1 0) xs ys h

  count_total : (p : A → Bool) (xs : List A) → count_by p xs ≡ total (λ x. plus (p x)) xs
  count_total p [] = refl
  count_total p (x ∷ xs) = omega (arith, many_cons p x xs, count_total p xs)

  -- two pass
  pub many_two : (p : A → Bool) (xs : List A) (i j : ℕ) (x y : A) → get_elem? xs i ≡ some x → get_elem? xs j ≡ some y → p x ≡ true → p y ≡ true → i ≢ j → 2 ≤ count_by p xs
  many_two p xs i j x y at at' up up' ne = omega (arith, count_total p xs, two_of (λ z. plus (p z)) xs i j x y at at' ne, ap plus up, ap plus up')

  -- where some pass, there is one
  pub record Found (p : A → Bool) (xs : List A) : Type 0 where
    pub front : List A
    pub it : A
    pub back : List A
    pub is : xs ≡ front ++ it ∷ back
    pub passes : p it ≡ true

  pub find_it : (p : A → Bool) (xs : List A) → 0 < count_by p xs → Found p xs
  find_it p [] low = absurd (omega arith)
  find_it p (x ∷ xs) low = by_bool (p x)
      (λ is. record { front = []; it = x; back = xs; is = refl; passes = is })
      (λ isnt. let c = many_cons p x xs in let a : plus (p x) ≡ 0 = ap plus isnt in
      let r = find_it p xs (omega arith) in
      record { front = x ∷ r.front; it = r.it; back = r.back; is = ap (λ z. x ∷ z) r.is; passes = r.passes })

  pub found_at : (p : A → Bool) (xs : List A) → 0 < count_by p xs → (k : ℕ) × (x : A) × (get_elem? xs k ≡ some x) × (p x ≡ true)
  found_at p xs low = let f = find_it p xs low in (length f.front + 0, f.it, subst (λ (z : List A). get_elem? z (length f.front + 0) ≡ some f.it) (sym f.is) (at_after f.front (f.it ∷ f.back) 0 f.it refl), f.passes)

  -- none passes
  pub many_none : (p : A → Bool) (xs : List A) → ((k : ℕ) (x : A) → get_elem? xs k ≡ some x → p x ≡ true → ⊥) → count_by p xs ≡ 0
  many_none p xs none = dite (dec_lt 0 (count_by p xs)) (λ low. let f = found_at p xs low in absurd (none f.0 f.1 f.2 f.3)) (λ no. omega arith)

  -- one passes, and no other
  pub many_one : (p : A → Bool) (xs : List A) (k : ℕ) (x : A) → get_elem? xs k ≡ some x → p x ≡ true
      → ((i j : ℕ) (y z : A) → get_elem? xs i ≡ some y → get_elem? xs j ≡ some z → p y ≡ true → p z ≡ true → i ≡ j) → count_by p xs ≡ 1
  many_one p xs k x at up once = count_total p xs ∙ (sole_total (λ z. plus (p z)) xs k x at
      (λ i y has ne. by_bool (p y) (λ passes. absurd (ne (once i k y x has at passes up))) (λ low. ap plus low)) ∙ ap plus up)

  -- whether one passes, by how many
  pub any_is : (p : A → Bool) (xs : List A) → list_any p xs ≡ nat_lt 0 (count_by p xs)
  any_is p [] = refl
  any_is p (x ∷ xs) = let c = many_cons p x xs in by_bool (p x)
      (λ is. let a : plus (p x) ≡ 1 = ap plus is in ap (λ z. z || list_any p xs) is ∙ sym (is_less 0 (count_by p (x ∷ xs)) (omega arith)))
      (λ isnt. let a : plus (p x) ≡ 0 = ap plus isnt in let e : count_by p xs ≡ count_by p (x ∷ xs) = omega arith in
      ap (λ z. z || list_any p xs) isnt ∙ (any_is p xs ∙ ap (nat_lt 0) e))

  pub some_count : (p : A → Bool) (xs : List A) → list_any p xs ≡ true → 1 ≤ count_by p xs
  some_count p xs any = ltb-true 0 (count_by p xs) (sym (any_is p xs) ∙ any)

-- how often a number is in a range
pub range_out : (a n m : ℕ) → m < a → count_by (eqb m) (range_with_len a n) ≡ 0
range_out a zero m low = refl
range_out a (suc n) m low = let c = many_cons (eqb m) a (range_with_len (a + 1) n) in let z : plus (eqb m a) ≡ 0 = ap plus (ne_eqb m a (λ e. omega arith)) in
    let h = range_out (a + 1) n m (omega arith) in omega arith

pub range_far : (a n m : ℕ) → a + n ≤ m → count_by (eqb m) (range_with_len a n) ≡ 0
range_far a zero m far = refl
range_far a (suc n) m far = let c = many_cons (eqb m) a (range_with_len (a + 1) n) in let z : plus (eqb m a) ≡ 0 = ap plus (ne_eqb m a (λ e. omega arith)) in
    let h = range_far (a + 1) n m (omega arith) in omega arith

pub range_in : (a n m : ℕ) → a ≤ m → m < a + n → count_by (eqb m) (range_with_len a n) ≡ 1
range_in a zero m low high = absurd (omega arith)
range_in a (suc n) m low high = let c = many_cons (eqb m) a (range_with_len (a + 1) n) in dite (dec_lt a m)
    (λ less. let z : plus (eqb m a) ≡ 0 = ap plus (ne_eqb m a (λ e. omega arith)) in let h = range_in (a + 1) n m (omega arith) (omega arith) in omega arith)
    (λ not_less. let e : m ≡ a = omega (arith, not_less) in let z : plus (eqb m a) ≡ 1 = ap plus (eq-eqb m a e) in let h = range_out (a + 1) n m (omega arith) in omega arith)
