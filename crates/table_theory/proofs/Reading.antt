-- Reads of positions one after the other, and of a word.
use Rattle.table_theory.proofs.Common.{◌≡◌, ℕ, zero, suc, ◌+◌, ◌-◌, ◌≤◌, List, [], ◌∷◌, ◌++◌, length, get_or, refl, sym, ap, ◌∙◌, arith, get_elem?}
use mathlib.Core.Option as maybe
use Rattle.table_theory.specs.Reads.{read_from}

-- a word that was read
pub read_word : (l : List ℕ) (i x : ℕ) → get_elem? l i ≡ maybe.some x → get_or l i 0 ≡ x
read_word [] i x e = absurd (maybe.some-ne-none x (sym e))
read_word (y ∷ ys) zero x e = maybe.some-injective y x e
read_word (y ∷ ys) (suc i) x e = read_word ys i x e

pub read_length : {A : Type 0} (read : ℕ → A) (p n : ℕ) → length (read_from read p n) ≡ n
read_length read p zero = refl
read_length read p (suc n) = ap suc (read_length read (suc p) n)

read_more : {A : Type 0} (read : ℕ → A) (p n : ℕ) → read_from read p (suc n) ≡ read_from read p n ++ read (p + n) ∷ []
read_more {A} read p zero = let e : p ≡ p + 0 = omega arith in ap (λ (z : ℕ). read z ∷ []) e
read_more {A} read p (suc n) = let e : suc p + n ≡ p + suc n = omega arith in ap (λ (z : List A). read p ∷ z) (read_more read (suc p) n ∙ ap (λ (z : ℕ). read_from read (suc p) n ++ read z ∷ []) e)

-- one more is read
pub read_on : {A : Type 0} (read : ℕ → A) (t p : ℕ) (xs : List A) (x : A) → t ≤ p → xs ≡ read_from read t (p - t) → x ≡ read p → xs ++ x ∷ [] ≡ read_from read t (p + 1 - t)
read_on {A} read t p xs x le is e = let a : p ≡ t + (p - t) = omega arith in let b : suc (p - t) ≡ p + 1 - t = omega arith in
    (λ k. is k ++ (e ∙ ap read a) k ∷ []) ∙ (sym (read_more read t (p - t)) ∙ ap (read_from read t) b)
