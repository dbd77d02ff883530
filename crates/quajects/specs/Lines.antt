-- The line that a quaject holds.
use Rattle.std.specs.Prelude.{◌%◌, ◌^◌, ℕ, List, [], ◌∷◌, length}
use Rattle.std.specs.List.{concat}

-- the line that is held, if one is held
abbrev pub held_line : List ℕ → List (List ℕ)
held_line [] = []
held_line (x ∷ xs) = (x ∷ xs) ∷ []

-- the number of items in these lines, modulo 2^64
abbrev pub counted : List (List ℕ) → ℕ
counted lines = length (concat lines) % 2 ^ 64
