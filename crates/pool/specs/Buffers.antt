-- Buffers are numbers. How often a number is in a list counts the owners of a buffer.
use Rattle.std.specs.Prelude.{◌≡◌, ◌<◌, ℕ, List}
use mathlib.Core.Option.{some}
use lib.ListN.{get_elem?}
use Rattle.table_theory.specs.Times.{numbers_below}
pub use Rattle.table_theory.specs.Times.{times}

-- the buffers of a pool of so many: 0, 1 and so on
abbrev pub all_buffers : ℕ → List ℕ
all_buffers count = numbers_below count

-- these are all buffers of a pool of so many, each once
abbrev pub AreAll : ℕ → List ℕ → Type 0
AreAll count buffers = (x : ℕ) → times x buffers ≡ times x (all_buffers count)

-- each of these is a buffer of a pool of so many
abbrev pub AreBuffers : ℕ → List ℕ → Type 0
AreBuffers count buffers = (i x : ℕ) → get_elem? buffers i ≡ some x → x < count
