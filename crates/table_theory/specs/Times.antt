-- How often a number is in a list, and the lists that are counted.
use Rattle.std.specs.Prelude.{ℕ, ◌==◌, Bool, not, List, [], ◌∷◌, map}
use Rattle.std.specs.List.{concat, count_by, filter, range_with_len}
use Rattle.event_theory.specs.Runs.{Run}
use Rattle.table_theory.specs.Protocols.{Placed}

-- how often x is in the list
abbrev pub times : ℕ → List ℕ → ℕ
times x xs = count_by (λ y. y == x) xs

-- the numbers below n: 0, 1 and so on
abbrev pub numbers_below : ℕ → List ℕ
numbers_below n = range_with_len 0 n

-- the items of the first run of a history, or none if it has no run
abbrev pub first_items : List Run → List ℕ
first_items [] = []
first_items (r ∷ runs) = r.items

-- the items of these lines, one after the other
abbrev pub items_in : List Placed → List ℕ
items_in lines = concat (map (λ line. line.1) lines)

-- the line is not at the queue's first position
abbrev pub is_later : ℕ → Placed → Bool
is_later first line = not (line.0 == first)

-- the items that an end gave back by these lines: those of each line except the line at the queue's first position
abbrev pub returned : ℕ → List Placed → List ℕ
returned first lines = items_in (filter (is_later first) lines)
