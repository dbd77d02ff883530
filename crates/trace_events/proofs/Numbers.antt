-- Times are numbers of JSON.
use Rattle.trace_events.proofs.Common.{◌≡◌, ℕ, zero, suc, ◌+◌, ◌/◌, ◌%◌, ◌^◌, ◌<◌, true, false, List, [], ◌∷◌, ◌++◌, length, get_or, decimal, refl, ap, subst, arith, IsNumber}
use Rattle.std.proofs.lemmas.Fmt.{decimal_is_IsNumeral, decimal_digit, first_decimal}
use Rattle.std.specs.Str.Parse.{AllDigits}
use Rattle.std.specs.Float.Numeral.{Parts, IsWellFormed}
use Rattle.ryu.specs.Plain.{IsPlain}
use Rattle.json.proofs.Printed.Floats.{IsNumber-plain}
use Rattle.trace_events.specs.Micros.{micros}

pub decimal_of_digit : (d : ℕ) → d < 10 → decimal d ≡ (48 + d) ∷ []
decimal_of_digit d h = decimal_digit d h

digit_alone : (d : ℕ) → d < 10 → AllDigits 10 ((48 + d) ∷ [])
digit_alone d h = subst (AllDigits 10) (decimal_of_digit d h) (decimal_is_IsNumeral d (omega arith)).0.1

no_zero_first : (w : ℕ) → w < 2 ^ 64 → get_or (decimal w) 0 0 ≡ 48 → length (decimal w) ≡ 1
no_zero_first zero h e = ap length (decimal_of_digit 0 (omega arith))
no_zero_first (suc w) h e = absurd (omega (arith, first_decimal (suc w) (omega arith) h))

with_decimals : (w a b c : ℕ) → w < 2 ^ 64 → a < 10 → b < 10 → c < 10 → IsNumber (decimal w ++ 46 ∷ (48 + a) ∷ (48 + b) ∷ (48 + c) ∷ [])
with_decimals w a b c h p q r =
    let whole = decimal_is_IsNumeral w h in
    let fraction : List ℕ = (48 + a) ∷ (48 + b) ∷ (48 + c) ∷ [] in
    let parts : Parts = record { whole = decimal w; point = true; fraction = fraction; exponent_negative = false; exponent = []; len = length (decimal w ++ 46 ∷ fraction) } in
    let fits : IsWellFormed parts = record { whole_digits = whole.0.1; fraction_digits = ((digit_alone a p).0, ((digit_alone b q).0, ((digit_alone c r).0, tt))); exponent_digits = tt; no_point = λ e. cc; no_exponent = λ e. refl; len_is = refl } in
    let plain : IsPlain parts = record { well_formed = fits; whole = whole.0.0; no_leading_zero = no_zero_first w h; fraction = λ e. omega arith; marked = λ e. cc } in
    IsNumber-plain (decimal w ++ 46 ∷ fraction) (false, parts, refl, plain)

pub IsNumber-micros : (n : ℕ) → n < 2 ^ 64 → IsNumber (micros n)
IsNumber-micros n h = with_decimals (n / 1000) (n / 100 % 10) (n / 10 % 10) (n % 10) (omega arith) (omega arith) (omega arith) (omega arith)

-- what is printed of a time, number by number, is its text
pub micros_printed : (n : ℕ) → decimal (n / 1000) ++ 46 ∷ (decimal (n / 100 % 10) ++ (decimal (n / 10 % 10) ++ decimal (n % 10))) ≡ micros n
micros_printed n = rw (decimal_of_digit (n / 100 % 10) (omega arith), decimal_of_digit (n / 10 % 10) (omega arith), decimal_of_digit (n % 10) (omega arith)) refl
