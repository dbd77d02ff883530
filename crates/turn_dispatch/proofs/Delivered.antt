-- The bits of the signals that were delivered.
use Rattle.turn_dispatch.proofs.Common.{◌⊎◌, inl, inr, ◌||◌, cond, set, ◌==◌, ◌&&◌, bit_or, is_in, Shows, delivery, is_delivered, ◌≡◌, ◌≢◌, ℕ, zero, suc, ◌+◌, ◌<◌, ◌≤◌, Bool, true, false, List, ◌∷◌, get_or, length, max, refl, sym, ap, ◌∙◌, arith, eqb, filter, eqb_tells, nat_tests, get_or-set_same, get_or-set_other, and-false, signals_in}
use Rattle.std.specs.Int.{bit_at}
use Rattle.std.specs.List.{list_any, range_with_len}
use Rattle.std.proofs.lemmas.Nat.Bits.{bit_at_or, bit_at-lt}

either_bit : (x y : ℕ) → x < 2 → y < 2 → eqb (max x y) 1 ≡ (eqb x 1 || eqb y 1)
either_bit zero zero a b = refl
either_bit zero (suc zero) a b = refl
either_bit (suc zero) zero a b = refl
either_bit (suc zero) (suc zero) a b = refl
either_bit (suc (suc x)) y a b = absurd (omega arith)
either_bit zero (suc (suc y)) a b = absurd (omega arith)
either_bit (suc zero) (suc (suc y)) a b = absurd (omega arith)

pub in_or : (a b s : ℕ) → is_in (bit_or a b) s ≡ (is_in a s || is_in b s)
in_or a b s = ap (λ n. eqb n 1) (bit_at_or a b s) ∙ either_bit (bit_at a s) (bit_at b s) (bit_at-lt a s) (bit_at-lt b s)

-- whether a signal is among those of a list with one more at its head
head_by : (p : ℕ → Bool) (s a : ℕ) (b : Bool) (tail : List ℕ) (answer : Bool) → (a ≡ s → answer ≡ b) → (a ≢ s → list_any (λ t. t == s) tail ≡ answer) → (a ≡ s → list_any (λ t. t == s) tail ≡ false)
    → ((eqb a s ≡ true) × (a ≡ s)) ⊎ ((eqb a s ≡ false) × (a ≢ s)) → list_any (λ t. t == s) (cond b (a ∷ tail) tail) ≡ answer
head_by p s a true tail answer here there past (inl same) = ap (λ t. t || list_any (λ t. t == s) tail) same.0 ∙ sym (here same.1)
head_by p s a false tail answer here there past (inl same) = past same.1 ∙ sym (here same.1)
head_by p s a true tail answer here there past (inr other) = ap (λ t. t || list_any (λ t. t == s) tail) other.0 ∙ there other.1
head_by p s a false tail answer here there past (inr other) = there other.1

-- a signal below the first of a list of them
any_past : (p : ℕ → Bool) (s a n : ℕ) → s < a → list_any (λ t. t == s) (filter p (range_with_len a n)) ≡ false
any_past p s a zero low = refl
any_past p s a (suc n) low = head_by p s a (p a) (filter p (range_with_len (a + 1) n)) false (λ e. absurd (omega arith)) (λ e. any_past p s (a + 1) n (omega arith)) (λ e. absurd (omega arith)) (eqb_tells a s)

-- a signal that is within the range
pub any_at : (p : ℕ → Bool) (s a n : ℕ) → a ≤ s → s < a + n → list_any (λ t. t == s) (filter p (range_with_len a n)) ≡ p s
any_at p s a zero low few = absurd (omega arith)
any_at p s a (suc n) low few = head_by p s a (p a) (filter p (range_with_len (a + 1) n)) (p s) (λ e. ap p (sym e)) (λ e. any_at p s (a + 1) n (omega arith) (omega arith)) (λ e. any_past p s (a + 1) n (omega arith)) (eqb_tells a s)

pub none_in : (s : ℕ) → is_in 0 s ≡ false
none_in s = grind (arith, nat_tests)

or_none : (b : Bool) → b ≡ (b || false)
or_none true = refl
or_none false = refl

-- a delivery delivers the signals of its mask, to its element
delivered_here : (mask s : ℕ) (b : Bool) → s < 16 → (b && list_any (λ t. t == s) (signals_in mask) || false) ≡ (b && is_in mask s)
delivered_here mask s true low = sym (or_none (list_any (λ t. t == s) (signals_in mask))) ∙ any_at (is_in mask) s 0 16 (omega arith) (omega arith)
delivered_here mask s false low = refl

delivers : (element mask e s : ℕ) → s < 16 → is_delivered (delivery element mask) e s ≡ (element == e && is_in mask s)
delivers element zero e s low = sym (ap (λ b. element == e && b) (none_in s) ∙ and-false (element == e))
delivers element (suc mask) e s low = delivered_here (suc mask) s (element == e) low

pub shows_more : (element mask : ℕ) (old : List ℕ) → element < length old → Shows (delivery element mask) old (set old element (bit_or (get_or old element 0) mask))
shows_more element mask old below e s low few = by (eqb_tells element e)
  where
    by : ((eqb element e ≡ true) × (element ≡ e)) ⊎ ((eqb element e ≡ false) × (element ≢ e))
        → is_in (get_or (set old element (bit_or (get_or old element 0) mask)) e 0) s ≡ (is_in (get_or old e 0) s || is_delivered (delivery element mask) e s)
    by (inl same) = ap (λ k. is_in (get_or (set old element (bit_or (get_or old element 0) mask)) k 0) s) (sym same.1)
        ∙ (ap (λ n. is_in n s) (get_or-set_same old element (bit_or (get_or old element 0) mask) 0 below)
        ∙ (in_or (get_or old element 0) mask s
        ∙ (ap (λ k. is_in (get_or old k 0) s || is_in mask s) same.1
        ∙ ap (λ b. is_in (get_or old e 0) s || b) (sym (delivers element mask e s few ∙ ap (λ b. b && is_in mask s) same.0)))))
    by (inr other) = ap (λ n. is_in n s) (get_or-set_other old element e (bit_or (get_or old element 0) mask) 0 (λ is. other.1 (sym is)))
        ∙ (or_none (is_in (get_or old e 0) s) ∙ ap (λ b. is_in (get_or old e 0) s || b) (sym (delivers element mask e s few ∙ ap (λ b. b && is_in mask s) other.0)))
