-- Times as numbers of microseconds.
use Rattle.std.specs.Prelude.{ℕ, ◌+◌, ◌/◌, ◌%◌, List, [], ◌∷◌, ◌++◌}
use Rattle.std.specs.Fmt.{decimal}

-- nanoseconds as microseconds with three decimals
abbrev pub micros : ℕ → List ℕ
micros n = decimal (n / 1000) ++ 46 ∷ (48 + n / 100 % 10) ∷ (48 + n / 10 % 10) ∷ (48 + n % 10) ∷ []
