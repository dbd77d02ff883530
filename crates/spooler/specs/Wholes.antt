-- The form of a line.
use Rattle.std.specs.Prelude.{◌≡◌, ◌≢◌, ◌+◌, ◌-◌, ◌<◌, ◌≤◌, ℕ, List, length, slice_index_or}

-- a line has 1 to 64 items; only its last item may be 10, and must be if the line has fewer than 64 items
abbrev pub IsWhole : List ℕ → Type 0
IsWhole items = (0 < length items) × (length items ≤ 64)
    × ((i : ℕ) → i + 1 < length items → slice_index_or items i 0 ≢ 10)
    × (length items < 64 → slice_index_or items (length items - 1) 0 ≡ 10)
