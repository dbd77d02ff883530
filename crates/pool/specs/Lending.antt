-- The protocol of a pool's queue: a condition on each end, by the queue's first position and the lines that the end put
-- and took.
use Rattle.std.specs.Prelude.{◌≡◌, ◌≤◌, ℕ, List}
use mathlib.Core.Option.{some}
use lib.ListN.{get_elem?}
use Rattle.table_theory.specs.Protocols.{Placed}
use Rattle.table_theory.specs.Times.{items_in, returned, times}
use Rattle.pool.specs.Buffers.{all_buffers}

-- The line at the first position is all buffers of a pool. Each buffer was put back at most as often as it was taken
pub record Lends (first : ℕ) (puts taken : List Placed) : Type 0 where
  pub stock : (m : ℕ) (line : Placed) → get_elem? puts m ≡ some line → line.0 ≡ first
      → (count : ℕ) × (line.1 ≡ all_buffers count)
  pub fair : (x : ℕ) → times x (returned first puts) ≤ times x (items_in taken)
