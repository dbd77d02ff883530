-- A number and its one spelling.
use Rattle.boot_script.proofs.Common.{◌≡◌, ℕ, suc, zero, ◌<◌, ◌≤◌, ◌+◌, ◌*◌, ◌^◌, ◌&&◌, List, [], ◌∷◌, ◌∙◌, refl, sym, ap, subst, arith, length, drop, get_or, Bool, true, false, cond, Ok, Err, drop-cons, nat_tests, bytes_eq-Decides, decimal_is_IsNumeral, first_decimal, decimal_digit, decimal-digits_value, drop_all, IsNumeralModel, numerals_by_value, tells_digits, digit_at, nat_le, IsInRange, decimal, AllDigits, IsNumeral, digits_value, digits_value_after, BadNumber, number_of}
use Rattle.std.specs.Char.{digit_value}

by_test : (a b : Bool) (n : ℕ) → (a ≡ true → b ≡ true → ⊥) → Err BadNumber ≡ cond (a && b) (Ok n) (Err BadNumber)
by_test true true n h = absurd (h refl refl)
by_test true false n h = refl
by_test false b n h = refl

-- what isn't the spelling of a number in the range is refused
pub refused : (most : ℕ) (ds : List ℕ) → (digits_value 10 ds ≤ most → decimal (digits_value 10 ds) ≡ ds → ⊥) → Err BadNumber ≡ number_of most ds
unfolding number_of
refused most ds h = by_test _ _ _ (λ small same. h (grind (arith, nat_tests, small)) ((bytes_eq-Decides (decimal (digits_value 10 ds)) ds).0 same))

numeral : (n : ℕ) (ds : List ℕ) → n < 2 ^ 64 → decimal n ≡ ds → IsNumeral 10 ds
numeral n ds small e = subst (IsNumeral 10) e (decimal_is_IsNumeral n small).0

pub refused_empty : (most : ℕ) (ds : List ℕ) → most < 2 ^ 64 → length ds ≡ 0 → Err BadNumber ≡ number_of most ds
refused_empty most ds small none = refused most ds (λ le e. absurd (omega (arith, (numeral _ ds (omega arith) e).0)))

pub refused_byte : (most : ℕ) (ds : List ℕ) (i : ℕ) → most < 2 ^ 64 → i < length ds → (IsInRange 48 57 (get_or ds i 0) → ⊥) → Err BadNumber ≡ number_of most ds
refused_byte most ds i small within other = refused most ds (λ le e. other (digit_at ds i (numeral _ ds (omega arith) e).1 within))

leading : (n : ℕ) (ds : List ℕ) → n < 2 ^ 64 → decimal n ≡ ds → get_or ds 0 0 ≡ 48 → 1 < length ds → ⊥
leading zero ds small e first long = absurd (omega (arith, ap length e, ap length (decimal_digit 0 (omega arith))))
leading (suc n) ds small e first long =
    let above : 48 < get_or (decimal (suc n)) 0 0 = first_decimal (suc n) (omega arith) small in
    absurd (omega (arith, above, ap (λ xs. get_or xs 0 0) e))

pub refused_zero : (most : ℕ) (ds : List ℕ) → most < 2 ^ 64 → get_or ds 0 0 ≡ 48 → 1 < length ds → Err BadNumber ≡ number_of most ds
refused_zero most ds small first long = refused most ds (λ le e. leading _ ds (omega arith) e first long)

pub refused_above : (most : ℕ) (ds : List ℕ) → most < digits_value 10 ds → Err BadNumber ≡ number_of most ds
refused_above most ds above = refused most ds (λ le e. absurd (omega arith))

-- later digits make no number smaller
pub grows : (n : ℕ) (ds : List ℕ) → n ≤ digits_value_after 10 n ds
grows n [] = omega arith
grows n (c ∷ cs) = omega (arith, grows (n * 10 + digit_value c) cs)

own : IsNumeralModel (AllDigits 10) (digits_value 10)
own = numerals_by_value (AllDigits 10) tells_digits

all_true : (a b : Bool) (n : ℕ) → a ≡ true → b ≡ true → Ok n ≡ cond (a && b) (Ok n) (Err BadNumber)
all_true a b n p q = rw (p, q) refl

pub read : (most n : ℕ) (ds : List ℕ) → most < 2 ^ 64 → n ≤ most → digits_value 10 ds ≡ n → AllDigits 10 ds → 0 < length ds → (get_or ds 0 0 ≡ 48 → length ds ≡ 1) → Ok n ≡ number_of most ds
unfolding number_of
read most n ds small le e all some zeroless =
    let same : decimal (digits_value 10 ds) ≡ ds = decimal-digits_value own ds all some zeroless (omega arith) in
    let test : nat_le (digits_value 10 ds) most ≡ true = grind (arith, nat_tests) in
    ap Ok (sym e) ∙ all_true _ _ _ test ((bytes_eq-Decides (decimal (digits_value 10 ds)) ds).1 same)

-- the digit at i, and the digits after it
pub above_after : (v i : ℕ) (ds : List ℕ) → i < length ds → digits_value_after 10 v (drop i ds) ≡ digits_value 10 ds → v * 10 + digit_value (get_or ds i 0) ≤ digits_value 10 ds
above_after v i ds within h =
    let e : digits_value_after 10 v (get_or ds i 0 ∷ drop (suc i) ds) ≡ digits_value 10 ds = ap (digits_value_after 10 v) (sym (drop-cons ds i 0 within)) ∙ h in
    let g = grows (v * 10 + digit_value (get_or ds i 0)) (drop (suc i) ds) in
    omega (arith, e, g)

pub past_end : (v i : ℕ) (ds : List ℕ) → length ds ≤ i → digits_value_after 10 v (drop i ds) ≡ digits_value 10 ds → digits_value 10 ds ≡ v
past_end v i ds past h = sym h ∙ ap (digits_value_after 10 v) (drop_all i ds past)

pub all_at_end : (i : ℕ) (ds : List ℕ) → length ds ≤ i → (AllDigits 10 (drop i ds) → AllDigits 10 ds) → AllDigits 10 ds
all_at_end i ds past h = h (subst (AllDigits 10) (sym (drop_all i ds past)) tt)
