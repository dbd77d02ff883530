-- What is left of a hand's share after one more split.
use Rattle.std.proofs.Common.{◌≡◌, ℕ, ◌+◌, ◌*◌, ◌/◌, ◌≤◌, arith}
use Rattle.std.proofs.Math.Nat.{min-le_right}
use Rattle.table_theory.specs.Sharing.{kept}

-- so many parts for each split that is still to come, and two more
pub one_split : (s t i : ℕ) → t ≡ kept s → 8 * 2097152 + 2 ≤ s + i * 2097152
    → 8 * 2097152 + 2 ≤ t + (i + 1) * 2097152
one_split s t i is h = let m = min-le_right (s / 2) 2097152 in omega arith
