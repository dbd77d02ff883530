-- Reading positions one after the other.
use Rattle.std.specs.Prelude.{ℕ, zero, suc, List, [], ◌∷◌}

-- the values read at the n positions from this one on
abbrev pub read_from : {A : Type 0} → (ℕ → A) → ℕ → ℕ → List A
read_from read position zero = []
read_from read position (suc n) = read position ∷ read_from read (suc position) n
