-- How often a number is in lists, and sums over lists.
use Rattle.std.proofs.Common.{◌≡◌, ℕ, zero, suc, ◌+◌, ◌-◌, ◌<◌, ◌≤◌, Bool, List, [], ◌∷◌, ◌++◌, ◌∙◌, map, take, drop, refl, sym, ap, arith}
use Rattle.std.proofs.Math.Dec.{eqb}
use Rattle.std.proofs.lemmas.Bool.{ne_eqb}
use Rattle.std.proofs.Common.{eq-eqb}
use Rattle.std.proofs.lemmas.List.Sums.{sum_by-append, sum_by-cons, sum_by-take-drop}
use Rattle.std.specs.List.{concat, flat_map, range_with_len}
use mathlib.Core.Bool.{cond}
use mathlib.Core.Logic.{dite}
use mathlib.Core.Option.{some, some-injective, some-ne-none}
use native.Mathlib.Decide.{ℕ_discrete}
use lib.ListN.{get_elem?}
use Rattle.table_theory.specs.Sharing.{total}
use Rattle.table_theory.proofs.Totals.{one_of}
use Rattle.table_theory.specs.Times.{numbers_below, times}

abbrev hit : ℕ → ℕ → ℕ
hit x y = cond (eqb y x) 1 0

pub times_append : (x : ℕ) (xs ys : List ℕ) → times x (xs ++ ys) ≡ times x xs + times x ys
times_append x xs ys = sum_by-append (hit x) xs ys

times_cons : (x y : ℕ) (ys : List ℕ) → times x (y ∷ ys) ≡ hit x y + times x ys
times_cons x y ys = sum_by-cons (hit x) y ys

pub times_split : (x n : ℕ) (xs : List ℕ) → times x (take n xs) + times x (drop n xs) ≡ times x xs
times_split x n xs = sum_by-take-drop (hit x) xs n

-- in joined lists it is as often as in all of them together
pub times_concat : (x : ℕ) (lists : List (List ℕ)) → times x (concat lists) ≡ total (times x) lists
times_concat x [] = refl
times_concat x (l ∷ lists) = let a = times_append x l (concat lists) in let h = times_concat x lists in omega arith

pub times_flat : {A : Type 0} (f : A → List ℕ) (x : ℕ) (xs : List A) → times x (flat_map f xs) ≡ total (λ a. times x (f a)) xs
times_flat f x [] = refl
times_flat f x (a ∷ xs) = let b = times_append x (f a) (flat_map f xs) in let h = times_flat f x xs in omega arith

pub total_map : {A B : Type 0} (f : B → ℕ) (g : A → B) (xs : List A) → total f (map g xs) ≡ total (λ a. f (g a)) xs
total_map f g [] = refl
total_map f g (x ∷ xs) = let h = total_map f g xs in omega arith

pub total_same : {A : Type 0} (f g : A → ℕ) (xs : List A) → ((a : A) → f a ≡ g a) → total f xs ≡ total g xs
total_same f g [] is = refl
total_same f g (x ∷ xs) is = let a = is x in let h = total_same f g xs is in omega arith

-- the same, if they are equal at each member
pub total_alike : {A : Type 0} (f g : A → ℕ) (xs : List A) → ((j : ℕ) (a : A) → get_elem? xs j ≡ some a → f a ≡ g a) → total f xs ≡ total g xs
total_alike f g [] is = refl
total_alike f g (x ∷ xs) is = let a = is 0 x refl in let h = total_alike f g xs (λ j b at. is (suc j) b at) in omega arith

-- what is less each is less together
pub total_less : {A : Type 0} (f g : A → ℕ) (xs : List A) → ((j : ℕ) (a : A) → get_elem? xs j ≡ some a → g a ≤ f a) → total (λ a. f a - g a) xs + total g xs ≡ total f xs
total_less f g [] le = refl
total_less f g (x ∷ xs) le = let a = le 0 x refl in let h = total_less f g xs (λ j b at. le (suc j) b at) in omega arith

pub total_none : {A : Type 0} (f : A → ℕ) (xs : List A) → ((j : ℕ) (a : A) → get_elem? xs j ≡ some a → f a ≡ 0) → total f xs ≡ 0
total_none f [] none = refl
total_none f (x ∷ xs) none = let a = none 0 x refl in let h = total_none f xs (λ j b at. none (suc j) b at) in omega arith

pub total_joined : {A : Type 0} (f : A → ℕ) (xs ys : List A) → total f (xs ++ ys) ≡ total f xs + total f ys
total_joined f [] ys = omega arith
total_joined f (x ∷ xs) ys = let h = total_joined f xs ys in omega arith

-- exactly one member counts, and it counts once
pub record OneAlone {A : Type 0} (f : A → ℕ) (xs : List A) : Type 0 where
  pub number : ℕ
  pub one : A
  pub here : get_elem? xs number ≡ some one
  pub is : f one ≡ 1
  pub others : (j : ℕ) (a : A) → get_elem? xs j ≡ some a → (j ≡ number → ⊥) → f a ≡ 0

pub one_alone : {A : Type 0} (f : A → ℕ) (xs : List A) → total f xs ≡ 1 → OneAlone f xs
one_alone f [] is = absurd (omega arith)
one_alone {A} f (x ∷ xs) is = dite (ℕ_discrete (f x) 1)
    (λ one. record { number = 0; one = x; here = refl; is = one; others = none_else one })
    (λ none. let t : total f xs ≡ 1 = omega arith in let h = one_alone f xs t in record { number = suc h.number; one = h.one; here = h.here; is = h.is; others = else_none h none })
  where
    none_else : f x ≡ 1 → (j : ℕ) (a : A) → get_elem? (x ∷ xs) j ≡ some a → (j ≡ 0 → ⊥) → f a ≡ 0
    none_else one zero a at ne = absurd (ne refl)
    none_else one (suc j) a at ne = let h = one_of f xs j a at in omega arith

    else_none : (h : OneAlone f xs) → (f x ≡ 1 → ⊥) → (j : ℕ) (a : A) → get_elem? (x ∷ xs) j ≡ some a → (j ≡ suc h.number → ⊥) → f a ≡ 0
    else_none h none zero a at ne = let is' : f x ≡ f a = ap f (some-injective x a at) in let s = one_of f xs h.number h.one h.here in let t = h.is in omega arith
    else_none h none (suc j) a at ne = h.others j a at (λ e. ne (ap suc e))

hit_same : (x : ℕ) → hit x x ≡ 1
hit_same x = ap (λ (b : Bool). cond b 1 0) (eq-eqb x x refl)

hit_other : (x y : ℕ) → (y ≡ x → ⊥) → hit x y ≡ 0
hit_other x y ne = ap (λ (b : Bool). cond b 1 0) (ne_eqb y x ne)

-- how often a number is in a list of one number
pub times_self : (x : ℕ) → times x (x ∷ []) ≡ 1
times_self x = let c = times_cons x x [] in let h = hit_same x in let n : times x [] ≡ 0 = refl in omega arith

pub times_other : (x y : ℕ) → (y ≡ x → ⊥) → times x (y ∷ []) ≡ 0
times_other x y ne = let c = times_cons x y [] in let h = hit_other x y ne in let n : times x [] ≡ 0 = refl in omega arith

-- a number that is there counts
pub times_at : (x : ℕ) (xs : List ℕ) (i : ℕ) → get_elem? xs i ≡ some x → 0 < times x xs
times_at x [] i at = absurd (some-ne-none x (sym at))
times_at x (y ∷ ys) zero at = let c = times_cons x y ys in let h : hit x y ≡ 1 = ap (hit x) (some-injective y x at) ∙ hit_same x in omega arith
times_at x (y ∷ ys) (suc i) at = let c = times_cons x y ys in let h = times_at x ys i at in omega arith

range_before : (x a n : ℕ) → x < a → times x (range_with_len a n) ≡ 0
range_before x a zero low = refl
range_before x a (suc n) low = let c = times_cons x a (range_with_len (a + 1) n) in let h = range_before x (a + 1) n (omega arith) in let m = hit_other x a (λ e. omega arith) in omega arith

range_within : (x a n : ℕ) → a ≤ x → x < a + n → times x (range_with_len a n) ≡ 1
range_within x a zero low high = absurd (omega arith)
range_within x a (suc n) low high = let c = times_cons x a (range_with_len (a + 1) n) in dite (ℕ_discrete a x)
    (λ e. let h = range_before x (a + 1) n (omega arith) in let m : hit x a ≡ 1 = ap (λ (z : ℕ). hit x z) e ∙ hit_same x in omega arith)
    (λ ne. let h = range_within x (a + 1) n (omega arith) (omega arith) in let m = hit_other x a ne in omega arith)

range_past : (x a n : ℕ) → a + n ≤ x → times x (range_with_len a n) ≡ 0
range_past x a zero high = refl
range_past x a (suc n) high = let c = times_cons x a (range_with_len (a + 1) n) in let h = range_past x (a + 1) n (omega arith) in let m = hit_other x a (λ e. omega arith) in omega arith

range_more : (a n : ℕ) → range_with_len a (suc n) ≡ range_with_len a n ++ (a + n) ∷ []
range_more a zero = let e : a ≡ a + 0 = omega arith in ap (λ (z : ℕ). z ∷ []) e
range_more a (suc n) = let e : (a + 1) + n ≡ a + suc n = omega arith in ap (λ (z : List ℕ). a ∷ z) (range_more (a + 1) n ∙ ap (λ (z : ℕ). range_with_len (a + 1) n ++ z ∷ []) e)

-- one number more
pub one_more : (n : ℕ) → numbers_below (n + 1) ≡ numbers_below n ++ n ∷ []
one_more n = let e : n + 1 ≡ suc n = omega arith in let z : 0 + n ≡ n = omega arith in ap (range_with_len 0) e ∙ (range_more 0 n ∙ ap (λ (m : ℕ). range_with_len 0 n ++ m ∷ []) z)

-- each number below n is once among them
pub all_once : (x count : ℕ) → x < count → times x (numbers_below count) ≡ 1
all_once x count below = range_within x 0 count (omega arith) (omega arith)

pub all_other : (x count : ℕ) → count ≤ x → times x (numbers_below count) ≡ 0
all_other x count past = range_past x 0 count (omega arith)
