-- Lists whose entries are put one after the other.
use Rattle.thread_table.proofs.Common.{◌≡◌, ℕ, zero, suc, ◌<◌, ◌≤◌, Bool, true, false, List, [], ◌∷◌, length, get_or, Option, Some, None, refl, sym, ap, ◌∙◌, arith, and_right, ◌≢◌, ◌++◌, ⊎_elim, set, subst, length-set, some, get_elem?, at_set, at_push, parted, either, either_on}
use Rattle.std.proofs.Common.{if◌then◌else◌}
use Rattle.std.specs.Prelude.{◌&&◌, not}
use Rattle.std.proofs.Math.Bool.{and-true}
use Rattle.std.specs.Prelude.{◌||◌}

-- the first n entries are those of f, the others as they were
pub record ArePut {X : Type 0} (d : X) (f : ℕ → X) (n : ℕ) (old xs : List X) : Type 0 where
  pub long : length xs ≡ length old
  pub done : (i : ℕ) → i < n → get_or xs i d ≡ f i
  pub left : (i : ℕ) → n ≤ i → get_or xs i d ≡ get_or old i d

-- the entries of the marks that are in the first list alone, or in either of two
abbrev pub parted_at : List Bool → List Bool → ℕ → Bool
parted_at bs ms i = if get_or ms i false then false else get_or bs i false

abbrev pub either_at : List Bool → List Bool → ℕ → Bool
either_at bs ms i = if get_or bs i false then true else get_or ms i false

pub length-parted : (bs ms : List Bool) → length (parted bs ms) ≡ length bs
length-parted [] ms = refl
length-parted (b ∷ bs) [] = refl
length-parted (b ∷ bs) (m ∷ ms) = ap suc (length-parted bs ms)

no_mark : (m : Bool) → (if m then false else false) ≡ false
no_mark true = refl
no_mark false = refl

pub get_or-parted : (bs ms : List Bool) (i : ℕ) → get_or (parted bs ms) i false ≡ parted_at bs ms i
get_or-parted [] ms i = sym (no_mark (get_or ms i false))
get_or-parted (b ∷ bs) [] i = refl
get_or-parted (b ∷ bs) (m ∷ ms) zero = refl
get_or-parted (b ∷ bs) (m ∷ ms) (suc i) = get_or-parted bs ms i

and_not : (b m : Bool) → (if m then false else b) ≡ (b && not m)
and_not b true = sym (and_right b false refl)
and_not b false = sym (and-true b)

pub parted_and : (bs ms : List Bool) (i : ℕ) → get_or (parted bs ms) i false ≡ (get_or bs i false && not (get_or ms i false))
parted_and bs ms i = get_or-parted bs ms i ∙ and_not (get_or bs i false) (get_or ms i false)

pub length-either : (bs ms : List Bool) → length (either bs ms) ≡ length bs
length-either [] ms = refl
length-either (b ∷ bs) [] = refl
length-either (b ∷ bs) (m ∷ ms) = ap suc (length-either bs ms)

pub get_or-either : (bs ms : List Bool) (i : ℕ) → length ms ≡ length bs → get_or (either bs ms) i false ≡ either_at bs ms i
get_or-either [] [] i same = refl
get_or-either [] (m ∷ ms) i same = absurd (omega (arith, same))
get_or-either (b ∷ bs) [] i same = absurd (omega (arith, same))
get_or-either (b ∷ bs) (m ∷ ms) zero same = refl
get_or-either (b ∷ bs) (m ∷ ms) (suc i) same = get_or-either bs ms i (omega (arith, same))

or_is : (a b : Bool) → (if a then true else b) ≡ (a || b)
or_is true b = refl
or_is false b = refl

pub either_or : (bs ms : List Bool) (i : ℕ) → length ms ≡ length bs → get_or (either bs ms) i false ≡ (get_or bs i false || get_or ms i false)
either_or bs ms i same = get_or-either bs ms i same ∙ or_is (get_or bs i false) (get_or ms i false)

-- the first option, or else the second
abbrev pub or_else : {X : Type 0} → Option X → Option X → Option X
or_else None y = y
or_else (Some x) y = Some x

abbrev pub on_at : List (Option ℕ) → List (Option ℕ) → ℕ → Option ℕ
on_at xs ys i = or_else (get_or xs i None) (get_or ys i None)

pub length-either_on : (xs ys : List (Option ℕ)) → length (either_on xs ys) ≡ length xs
length-either_on [] ys = refl
length-either_on (x ∷ xs) [] = refl
length-either_on (None ∷ xs) (y ∷ ys) = ap suc (length-either_on xs ys)
length-either_on (Some x ∷ xs) (y ∷ ys) = ap suc (length-either_on xs ys)

pub get_or-either_on : (xs ys : List (Option ℕ)) (i : ℕ) → length ys ≡ length xs → get_or (either_on xs ys) i None ≡ on_at xs ys i
get_or-either_on [] [] i same = refl
get_or-either_on [] (y ∷ ys) i same = absurd (omega (arith, same))
get_or-either_on (x ∷ xs) [] i same = absurd (omega (arith, same))
get_or-either_on (None ∷ xs) (y ∷ ys) zero same = refl
get_or-either_on (Some x ∷ xs) (y ∷ ys) zero same = refl
get_or-either_on (None ∷ xs) (y ∷ ys) (suc i) same = get_or-either_on xs ys i (omega (arith, same))
get_or-either_on (Some x ∷ xs) (y ∷ ys) (suc i) same = get_or-either_on xs ys i (omega (arith, same))

-- where the second has nothing, there is what the first has
pub either_on_first : (xs ys : List (Option ℕ)) (i : ℕ) → length ys ≡ length xs → get_or ys i None ≡ None → get_or (either_on xs ys) i None ≡ get_or xs i None
either_on_first xs ys i same none = get_or-either_on xs ys i same ∙ (ap (or_else (get_or xs i None)) none ∙ first (get_or xs i None))
  where
    first : (x : Option ℕ) → or_else x None ≡ x
    first None = refl
    first (Some x) = refl

-- what holds of each entry holds of each where one is replaced, where one more comes, where one is cut in two, and where
-- one took in another
module _ {V : Type 0} (Q : ℕ → V → Type 0) where
  pub each_put : (vs : List V) (id : ℕ) (w : V) → ((j : ℕ) (u : V) → j ≢ id → get_elem? vs j ≡ some u → Q j u) → Q id w → (j : ℕ) (u : V) → get_elem? (set vs id w) j ≡ some u → Q j u
  each_put vs id w old mine j u at = ⊎_elim (λ t. subst (λ (z : ℕ). Q z u) (sym t.0) (subst (Q id) t.1 mine)) (λ t. old j u t.0 t.1) (at_set vs id j w u at)

  pub each_push : (vs : List V) (w : V) → ((j : ℕ) (u : V) → get_elem? vs j ≡ some u → Q j u) → Q (length vs) w → (j : ℕ) (u : V) → get_elem? (vs ++ w ∷ []) j ≡ some u → Q j u
  each_push vs w old new j u at = ⊎_elim (λ t. old j u t) (λ t. subst (λ (z : ℕ). Q z u) (sym t.0) (subst (Q (length vs)) t.1 new)) (at_push vs w u j at)

  pub each_split : (vs : List V) (id : ℕ) (left right : V) → ((j : ℕ) (u : V) → j ≢ id → get_elem? vs j ≡ some u → Q j u) → Q id left → Q (length vs) right
      → (j : ℕ) (u : V) → get_elem? (set vs id left ++ right ∷ []) j ≡ some u → Q j u
  each_split vs id left right old mine new = each_push (set vs id left) right (each_put vs id left old mine) (subst (λ (z : ℕ). Q z right) (sym (length-set vs id left)) new)

  pub each_joined : (vs : List V) (id other : ℕ) (taker spent : V) → ((j : ℕ) (u : V) → j ≢ id → j ≢ other → get_elem? vs j ≡ some u → Q j u) → Q id taker → Q other spent
      → (j : ℕ) (u : V) → get_elem? (set (set vs id taker) other spent) j ≡ some u → Q j u
  each_joined vs id other taker spent old mine gone = each_put (set vs id taker) other spent
      (λ j u ne' at. ⊎_elim (λ t. subst (λ (z : ℕ). Q z u) (sym t.0) (subst (Q id) t.1 mine)) (λ t. old j u t.0 ne' t.1) (at_set vs id j taker u at)) gone

-- if no two of a list passed a test, no two pass it that have different names
abbrev pub Passed : {V : Type 0} → (V → Bool) → (ℕ → ℕ) → List V → ℕ → Type 0
Passed {V} test name vs j = (i : ℕ) × (v : V) × (get_elem? vs i ≡ some v) × (test v ≡ true) × (j ≡ name i)

pub one_passes : {V : Type 0} (test : V → Bool) (name : ℕ → ℕ) (vs ws : List V) → ((i j : ℕ) (u v : V) → get_elem? vs i ≡ some u → get_elem? vs j ≡ some v → test u ≡ true → test v ≡ true → i ≡ j)
    → ((j : ℕ) (u : V) → get_elem? ws j ≡ some u → test u ≡ true → Passed test name vs j) → (i j : ℕ) (u v : V) → get_elem? ws i ≡ some u → get_elem? ws j ≡ some v → test u ≡ true → test v ≡ true → i ≡ j
one_passes test name vs ws one before i j u v at at' up up' = let a = before i u at up in let b = before j v at' up' in a.4 ∙ (ap name (one a.0 b.0 a.1 b.1 a.2 b.2 a.3 b.3) ∙ sym b.4)
