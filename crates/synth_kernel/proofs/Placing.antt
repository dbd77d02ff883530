-- An element of a list, by the elements before and after it.
use Rattle.synth_kernel.proofs.Common.{◌≡◌, zero, suc, List, [], ◌∷◌, ◌++◌, map, length, refl, ap, sym, subst, arith, All, AllZip}

pub here : {A B : Type 0} (f : A → B) (P : B → Type 0) (before : List A) (x : A) (following all : List A) → before ++ x ∷ following ≡ all → All P (map f all) → P (f x)
here {A = A} f P [] x following all is each = subst (λ (z : List A). All P (map f z)) (sym is) each zero (f x) (omega arith)
here f P (y ∷ before) x following [] is each = absurd cc
here f P (y ∷ before) x following (z ∷ all) is each = here f P before x following all (cc) (λ k d l. each (suc k) d (omega arith))

-- the heads of two lists, and their tails, place by place
module _ {A B : Type 0} (R : A → B → Type 0) where
  pub zip_head : (xs : List A) (ys : List B) (x : A) (y : B) (xs' : List A) (ys' : List B) → AllZip R xs ys → xs ≡ x ∷ xs' → ys ≡ y ∷ ys' → R x y
  zip_head xs ys x y xs' ys' h e f = let g = subst (λ z. AllZip R (x ∷ xs') z) f (subst (λ z. AllZip R z ys) e h) in g.0

  pub zip_tail : (xs : List A) (ys : List B) (x : A) (y : B) (xs' : List A) (ys' : List B) → AllZip R xs ys → xs ≡ x ∷ xs' → ys ≡ y ∷ ys' → AllZip R xs' ys'
  zip_tail xs ys x y xs' ys' h e f = let g = subst (λ z. AllZip R (x ∷ xs') z) f (subst (λ z. AllZip R z ys) e h) in g.1

  pub zip_long : (xs : List A) (ys : List B) → AllZip R xs ys → length ys ≡ length xs
  zip_long [] [] h = refl
  zip_long [] (y ∷ ys) h = absurd h
  zip_long (x ∷ xs) [] h = absurd h
  zip_long (x ∷ xs) (y ∷ ys) h = ap suc (zip_long xs ys h.1)
