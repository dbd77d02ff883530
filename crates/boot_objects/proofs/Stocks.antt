-- An end that is split off the one in a stock.
use Rattle.boot_objects.proofs.Common.{◌≡◌, ℕ, zero, suc, ◌+◌, ◌<◌, ◌≤◌, Bool, true, false, List, [], ◌∷◌, map, length, get_or, set, sym, ap, subst, ◌∙◌, arith, ◌==◌, if◌then◌else◌, Some, AllZip, slice_get, length-map, given, at_one, Gave, CanGive, ⊎_elim, get_or-set_same, get_or-set_other, length-set, map-set, kept}
use Rattle.std.proofs.lemmas.Bool.Decides.{eqb_tells}
use Rattle.table_theory.proofs.Counting.{given_kept}
use Rattle.boot_objects.proofs.Dealing.{given_few}

module _ {A B : Type 0} (R : A → B → Type 0) where
  pub at_both : (xs : List A) (ys : List B) → AllZip R xs ys → (i : ℕ) → i < length xs → (x : A) (y : B) → x ≡ get_or xs i x → y ≡ get_or ys i y → R x y
  at_both [] [] h i l x y e f = absurd (omega arith)
  at_both [] (b ∷ ys) h i l x y e f = absurd h
  at_both (a ∷ xs) [] h i l x y e f = absurd h
  at_both (a ∷ xs) (b ∷ ys) h zero l x y e f = subst (λ (z : A). R z y) (sym e) (subst (λ (z : B). R a z) (sym f) h.0)
  at_both (a ∷ xs) (b ∷ ys) h (suc i) l x y e f = at_both xs ys h.1 i (omega arith) x y e f

  pub set_both : (xs : List A) (ys : List B) → AllZip R xs ys → (i : ℕ) → i < length xs → (x : A) (y : B) → x ≡ get_or xs i x → R x y → AllZip R xs (set ys i y)
  set_both [] [] h i l x y e r = absurd (omega arith)
  set_both [] (b ∷ ys) h i l x y e r = absurd h
  set_both (a ∷ xs) [] h i l x y e r = absurd h
  set_both (a ∷ xs) (b ∷ ys) h zero l x y e r = (subst (λ (z : A). R z y) e r, h.1)
  set_both (a ∷ xs) (b ∷ ys) h (suc i) l x y e r = (h.0, set_both xs ys h.1 i (omega arith) x y e r)

pub map_here : {B : Type 0} (f : B → ℕ) (ys : List B) (i : ℕ) (y : B) → i < length ys → y ≡ get_or ys i y → get_or (map f ys) i 0 ≡ f y
map_here f [] i y l e = absurd (omega arith)
map_here f (b ∷ ys) zero y l e = ap f (sym e)
map_here f (b ∷ ys) (suc i) y l e = map_here f ys i y (omega arith) e

pub here : {A : Type 0} (xs : List A) (i : ℕ) (x y : A) → x ≡ get_or xs i x → slice_get xs i ≡ Some y → x ≡ y
here [] i x y e f = cc
here (a ∷ xs) zero x y e f = cc
here (a ∷ xs) (suc i) x y e f = here xs i x y e f

-- what both have is what the one had
whole_at : (old : List ℕ) (index share part : ℕ) → index < length old → share + part ≡ get_or old index 0 → (i : ℕ) → get_or (set old index share) i 0 + at_one 0 index part i ≡ get_or old i 0
whole_at old index share part l e i = ⊎_elim
    (λ is. ap (λ (z : Bool). get_or (set old index share) i 0 + (if z then part else 0)) is.0 ∙ subst (λ (z : ℕ). get_or (set old index share) z 0 + part ≡ get_or old z 0) (sym is.1) (ap (λ (z : ℕ). z + part) (get_or-set_same old index share 0 l) ∙ e))
    (λ not. ap (λ (z : Bool). get_or (set old index share) i 0 + (if z then part else 0)) not.0 ∙ (let same = get_or-set_other old index i share 0 not.1 in omega (arith, same)))
    (eqb_tells i index)

number_few : (b : Bool) (part most : ℕ) → part ≤ most → (if b then part else 0) ≤ most
number_few true part most l = l
number_few false part most l = omega arith

-- An end of a stock was split. What it has left and what the new one has is what it had
module _ {E : Type 0} (share : E → ℕ) where
  pub can_split : (ends : List E) (i : ℕ) (end : E) → i < length ends → end ≡ get_or ends i end → CanGive 1 (map share ends) → 2 ≤ share end
  can_split ends i end l e can = let long = length-map ends share in let h = can i (omega (arith, l, long)) in let same = map_here share ends i end l e in omega (arith, h, same)

  pub gave_one : (ends : List E) (i : ℕ) (end end' born : E) → i < length ends → end ≡ get_or ends i end → share end' ≡ kept (share end) → share born ≡ given (share end)
      → Gave 1 (at_one 0 i (share born)) (map share ends) (map share (set ends i end'))
  gave_one ends i end end' born l e left part =
      let had = map_here share ends i end l e in
      let sum : share end' + share born ≡ get_or (map share ends) i 0 = (λ j. left j + part j) ∙ given_kept (share end) ∙ sym had in
      let lefts : map share (set ends i end') ≡ set (map share ends) i (share end') = map-set share ends i end' in
      let few : share born ≤ 2097152 = subst (λ (z : ℕ). z ≤ 2097152) (sym part) (given_few (share end)) in record {
        long = ap length lefts ∙ length-set (map share ends) i (share end');
        rest = λ q. ap (λ (z : List ℕ). get_or z q 0 + at_one 0 i (share born) q) lefts ∙ whole_at (map share ends) i (share end') (share born) (let long = length-map ends share in omega (arith, long, l)) sum q;
        few = λ q. number_few (q == i) (share born) 2097152 few;
      }
