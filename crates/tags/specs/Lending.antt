-- The protocol of tags: a condition on an end of their queue, by the queue's first position and the lines that the end
-- put and took. The first position is the number of tags.
use Rattle.std.specs.Prelude.{◌≡◌, ◌≤◌, ℕ, List}
use mathlib.Core.Option.{some}
use lib.ListN.{get_elem?}
use Rattle.table_theory.specs.Protocols.{Placed}
use Rattle.table_theory.specs.Times.{items_in, numbers_below, returned, times}

-- the tags, if there are so many: 0, 1 and so on
abbrev pub all_tags : ℕ → List ℕ
all_tags count = numbers_below count

-- The line at the first position is all tags, and no line has another number. Each tag was given back at most as often
-- as it was taken
pub record Lends (count : ℕ) (puts taken : List Placed) : Type 0 where
  pub first : (m : ℕ) (line : Placed) → get_elem? puts m ≡ some line → line.0 ≡ count → line.1 ≡ all_tags count
  pub known : (x : ℕ) → count ≤ x → times x (items_in puts) ≡ 0
  pub fair : (x : ℕ) → times x (returned count puts) ≤ times x (items_in taken)

-- these are all tags, if there are so many, each once
abbrev pub AreAll : ℕ → List ℕ → Type 0
AreAll count tags = (x : ℕ) → times x tags ≡ times x (all_tags count)
