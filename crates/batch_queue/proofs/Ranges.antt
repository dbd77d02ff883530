-- A range of a list's entries that becomes one number.
use Rattle.batch_queue.proofs.Common.{List, [], ap, arith, dec_le, dec_lt, dite, get_or, inl, inr, length, length-replicate, refl, replicate, set_range, suc, zero, ℕ, ◌++◌, ◌<◌, ◌∷◌, ◌≡◌, ◌≤◌, ◌⊎◌}

pub replicated : (n z : ℕ) → length (replicate n z) ≡ n
replicated n z = length-replicate n z

pub range_length : (xs : List ℕ) (a b y : ℕ) → length (set_range xs a b y) ≡ length xs
range_length [] a b y = refl
range_length (x ∷ xs) a zero y = refl
range_length (x ∷ xs) zero (suc b) y = ap suc (range_length xs zero b y)
range_length (x ∷ xs) (suc a) (suc b) y = ap suc (range_length xs a b y)

pub range_at : (xs : List ℕ) (a b y i : ℕ) → i < length xs → a ≤ i → i < b → get_or (set_range xs a b y) i 0 ≡ y
range_at [] a b y i le from to = absurd (omega arith)
range_at (x ∷ xs) a zero y i le from to = absurd (omega arith)
range_at (x ∷ xs) zero (suc b) y zero le from to = refl
range_at (x ∷ xs) zero (suc b) y (suc i) le from to = range_at xs zero b y i (omega arith) (omega arith) (omega arith)
range_at (x ∷ xs) (suc a) (suc b) y zero le from to = absurd (omega arith)
range_at (x ∷ xs) (suc a) (suc b) y (suc i) le from to = range_at xs a b y i (omega arith) (omega arith) (omega arith)

pub range_in : (xs : List ℕ) (a b y i : ℕ) → b ≤ length xs → a ≤ i → i < b → get_or (set_range xs a b y) i 0 ≡ y
range_in xs a b y i le from to = range_at xs a b y i (omega arith) from to

pub range_out : (xs : List ℕ) (a b y i : ℕ) → ((a ≤ i) × (i < b) → ⊥) → get_or (set_range xs a b y) i 0 ≡ get_or xs i 0
range_out [] a b y i out = refl
range_out (x ∷ xs) a zero y i out = refl
range_out (x ∷ xs) zero (suc b) y zero out = absurd (out (omega arith, omega arith))
range_out (x ∷ xs) zero (suc b) y (suc i) out = range_out xs zero b y i (λ t. let l = t.1 in out (omega arith, omega arith))
range_out (x ∷ xs) (suc a) (suc b) y zero out = refl
range_out (x ∷ xs) (suc a) (suc b) y (suc i) out = range_out xs a b y i (λ t. let f = t.0 in let l = t.1 in out (omega arith, omega arith))

pub get_longer : (xs : List ℕ) (n i : ℕ) → get_or (xs ++ replicate n 0) i 0 ≡ get_or xs i 0
get_longer [] zero i = refl
get_longer [] (suc n) zero = refl
get_longer [] (suc n) (suc i) = get_longer [] n i
get_longer (x ∷ xs) n zero = refl
get_longer (x ∷ xs) n (suc i) = get_longer xs n i

pub is_in : (a b i : ℕ) → ((a ≤ i) × (i < b)) ⊎ ((a ≤ i) × (i < b) → ⊥)
is_in a b i = dite (dec_le a i) (λ x. dite (dec_lt i b) (λ y. inl (x, y)) (λ n. inr (λ t. n t.1))) (λ n. inr (λ t. n t.0))

pub get_after : (xs : List ℕ) (i : ℕ) → length xs ≤ i → get_or xs i 0 ≡ 0
get_after [] i h = refl
get_after (x ∷ xs) zero h = absurd (omega arith)
get_after (x ∷ xs) (suc i) h = get_after xs i (omega arith)
