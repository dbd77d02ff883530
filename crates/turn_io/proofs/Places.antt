-- One end of a list is used, and the others stay.
use Rattle.turn_io.proofs.Common.{◌≡◌, ℕ, zero, suc, ◌<◌, Bool, true, false, List, [], ◌∷◌, map, length, get_or, set, refl, sym, ap, subst, ◌∙◌, arith, Some, All, map-set_same, length-map, slice_get-get_or, TableId, OnEnd, AreSame, eqb}
use Rattle.std.specs.Prelude.{if◌then◌else◌}
use Rattle.std.proofs.Math.Dec.{eqb-suc-suc, eqb-suc-zero, eqb-zero-suc}

-- two lists with one image have one image at each place
pub same_at : {A B C : Type 0} (f : A → C) (g : B → C) (xs : List A) (ys : List B) → map f xs ≡ map g ys → (q : ℕ) → q < length ys → (a : A) (b : B) → a ≡ get_or xs q a → b ≡ get_or ys q b → f a ≡ g b
same_at f g [] [] e q below a b is is' = absurd (omega arith)
same_at f g [] (y ∷ ys) e q below a b is is' = absurd (cc)
same_at f g (x ∷ xs) [] e q below a b is is' = absurd (omega arith)
same_at f g (x ∷ xs) (y ∷ ys) e zero below a b is is' = let h : f x ≡ g y = cc in ap f is ∙ (h ∙ ap g (sym is'))
same_at f g (x ∷ xs) (y ∷ ys) e (suc q) below a b is is' = let h : map f xs ≡ map g ys = cc in same_at f g xs ys h q (omega arith) a b is is'

pub as_long : {A B C : Type 0} (f : A → C) (g : B → C) (xs : List A) (ys : List B) → map f xs ≡ map g ys → length xs ≡ length ys
as_long f g xs ys e = omega (arith, length-map xs f, length-map ys g, ap length e)

module _ {E : Type 0} (ends : List E) (i : ℕ) (end after : E) (is : end ≡ get_or ends i end) where
  pub same_ends : (table : E → TableId) (call : E → ℕ) → (table after ≡ table end) × (call after ≡ call end) → AreSame table call ends (set ends i after)
  same_ends table call same = record {
    tables = map-set_same table ends i after end (same.0 ∙ ap table is);
    calls = map-set_same call ends i after end (same.1 ∙ ap call is);
  }

  pub on_end : (Does : E → E → Type 0) → i < length ends → Does end after → OnEnd i Does ends (set ends i after)
  on_end Does below does = record { end = end; after = after; was = slice_get-get_or ends i end below ∙ ap Some (sym is); does = does; now = refl }

pub same_on : {E : Type 0} (table : E → TableId) (call : E → ℕ) (a b d : List E) → AreSame table call a b → AreSame table call b d → AreSame table call a d
same_on table call a b d s t = record { tables = t.tables ∙ s.tables; calls = t.calls ∙ s.calls }

-- the increase of an end, in a measure, is the increase of the list at the end's place
module _ {E A B : Type 0} (F : E → A) (d : A) (m : A → B) (op : B → B → B) (u : B) (right : (b : B) → op b u ≡ b) where
  chosen : (b c : Bool) (x : B) → b ≡ c → (if b then x else u) ≡ (if c then x else u)
  chosen b c x e = ap (λ (z : Bool). if z then x else u) e

  pub grown_at : (ends : List E) (i : ℕ) (end after : E) (x : B) → i < length ends → end ≡ get_or ends i end → m (F after) ≡ op (m (F end)) x
      → (q : ℕ) → m (get_or (map F (set ends i after)) q d) ≡ op (m (get_or (map F ends) q d)) (if eqb q i then x else u)
  grown_at [] i end after x below is more q = absurd (omega arith)
  grown_at (e ∷ es) zero end after x below is more zero = more ∙ ap (λ (z : E). op (m (F z)) x) is
  grown_at (e ∷ es) zero end after x below is more (suc q) =
      sym (right (m (get_or (map F es) q d))) ∙ ap (op (m (get_or (map F es) q d))) (sym (chosen (eqb (suc q) zero) false x (eqb-suc-zero q)))
  grown_at (e ∷ es) (suc i) end after x below is more zero = sym (right (m (F e))) ∙ ap (op (m (F e))) (sym (chosen (eqb zero (suc i)) false x (eqb-zero-suc i)))
  grown_at (e ∷ es) (suc i) end after x below is more (suc q) =
      grown_at es i end after x (omega arith) is more q ∙ ap (op (m (get_or (map F es) q d))) (sym (chosen (eqb (suc q) (suc i)) (eqb q i) x (eqb-suc-suc q i)))

module _ {E : Type 0} (P : E → Type 0) where
  -- a property of each end still holds, if it still holds of the end that was used
  pub all_still : (ends : List E) (i : ℕ) (end after : E) → i < length ends → end ≡ get_or ends i end → (P end → P after) → All P ends → All P (set ends i after)
  all_still [] i end after below is f h k d l = absurd (omega arith)
  all_still (e ∷ es) zero end after below is f h zero d l = f (subst P (sym is) (h zero d (omega arith)))
  all_still (e ∷ es) zero end after below is f h (suc k) d l = h (suc k) d (omega arith)
  all_still (e ∷ es) (suc i) end after below is f h zero d l = h zero d (omega arith)
  all_still (e ∷ es) (suc i) end after below is f h (suc k) d l = all_still es i end after (omega arith) is f (λ k d l. h (suc k) d (omega arith)) k d (omega arith)

-- each end still knows what it knew, if the end that was used does
pub known_still : {E : Type 0} (f : E → Bool) (ends : List E) (i : ℕ) (end after : E) → i < length ends → end ≡ get_or ends i end → (f end ≡ true → f after ≡ true)
    → (q : ℕ) → get_or (map f ends) q false ≡ true → get_or (map f (set ends i after)) q false ≡ true
known_still f [] i end after below is h q k = absurd (omega arith)
known_still f (e ∷ es) zero end after below is h zero k = h (ap f is ∙ k)
known_still f (e ∷ es) zero end after below is h (suc q) k = k
known_still f (e ∷ es) (suc i) end after below is h zero k = k
known_still f (e ∷ es) (suc i) end after below is h (suc q) k = known_still f es i end after (omega arith) is h q k
