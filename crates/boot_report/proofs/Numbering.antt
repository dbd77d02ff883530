-- Lines that are made of things and their numbers.
use Rattle.boot_report.proofs.Common.{◌≡◌, ℕ, zero, suc, ◌+◌, List, [], ◌∷◌, length, map, refl, sym, ap, ◌∙◌, arith, Some, slice_get, numbered}

module _ {A B : Type 0} (made : ℕ → A → B) where
  pub as_many : (n : ℕ) (xs : List A) → length (numbered made n xs) ≡ length xs
  as_many n [] = refl
  as_many n (x ∷ xs) = ap suc (as_many (n + 1) xs)

  -- the line at a place is made of the thing there
  at : (n k : ℕ) (xs : List A) (x : A) (b : B) → slice_get xs k ≡ Some x → slice_get (numbered made n xs) k ≡ Some b → b ≡ made (n + k) x
  at n k [] x b here there = absurd (cc)
  at n zero (y ∷ xs) x b here there = let e : y ≡ x = cc in let f : made n y ≡ b = cc in let m : n ≡ n + 0 = omega arith in sym f ∙ (ap (made n) e ∙ ap (λ z. made z x) m)
  at n (suc k) (y ∷ xs) x b here there = let m : n + 1 + k ≡ n + suc k = omega arith in at (n + 1) k xs x b here there ∙ ap (λ z. made z x) m

  pub made_at : (k : ℕ) (xs : List A) (x : A) (b : B) → slice_get xs k ≡ Some x → slice_get (numbered made 0 xs) k ≡ Some b → b ≡ made k x
  made_at k xs x b here there = let m : 0 + k ≡ k = omega arith in at 0 k xs x b here there ∙ ap (λ z. made z x) m

pub mapped_at : {A B : Type 0} (f : A → B) (xs : List A) (k : ℕ) (x : A) (b : B) → slice_get xs k ≡ Some x → slice_get (map f xs) k ≡ Some b → b ≡ f x
mapped_at f [] k x b here there = absurd (cc)
mapped_at f (y ∷ xs) zero x b here there = let e : y ≡ x = cc in let g : f y ≡ b = cc in sym g ∙ ap f e
mapped_at f (y ∷ xs) (suc k) x b here there = mapped_at f xs k x b here there
