-- The lists that a hand keeps in short: marks as the bits of a word, and the elements on the processors as bytes.
use Rattle.std.specs.Prelude.{ℕ, ◌==◌, Bool, List, map, if◌then◌else◌, nat_lt, Option, Some, None}
use Rattle.std.specs.List.{range_with_len}
use Rattle.std.specs.Int.{bit_at}

-- the lowest n bits of a word, the lowest first
abbrev pub marks : ℕ → ℕ → List Bool
marks n word = map (λ i. bit_at word i == 1) (range_with_len 0 n)

-- the element in a byte: a byte from 64 on is of none
abbrev pub element_in : ℕ → Option ℕ
element_in byte = if nat_lt byte 64 then Some byte else None

abbrev pub elements_in : List ℕ → List (Option ℕ)
elements_in bytes = map element_in bytes
