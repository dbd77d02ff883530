-- Words of a table that have no use.
use Rattle.std.specs.Prelude.{◌≡◌, ℕ, List, slice_index_or}

-- each word that has no use is 0
abbrev pub AreZero : (ℕ → Type 0) → List ℕ → Type 0
AreZero IsUsed words = (word : ℕ) → (IsUsed word → ⊥) → slice_index_or words word 0 ≡ 0
