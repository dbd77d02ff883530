-- Changes of a queue: one event, or one store of an item, at a time.
use Rattle.std.specs.Prelude.{◌≡◌, ℕ, ◌+◌, ◌-◌, ◌<◌, ◌≤◌, false, List, [], length}
use Rattle.table_theory.specs.declared.queues.Cell.{Cell}
use Rattle.table_theory.specs.declared.queues.Positions.{Positions}
use Rattle.table_theory.specs.Positioned.{place_at, head_of, stage_at, with_claim, with_write, with_take, with_shut}
use Rattle.claim_queue.specs.declared.rule.Shape.{Shape}

-- a queue in which nothing was claimed
abbrev pub empty : Shape → Positions
empty key = record { first = key.first; room = key.room; places = []; taken = 0; shut = false }

-- this position was claimed, and `place` is its place
pub record IsPlace (q : Positions) (position : ℕ) (place : Cell) : Type 0 where
  pub from : q.first ≤ position
  pub below : position < head_of q
  pub is : place_at q (position - q.first) ≡ place

-- n steps of writing are done at this position
abbrev pub with_stage_at : Positions → ℕ → ℕ → Positions
with_stage_at q position n = with_write q (position - q.first) n

-- one event, or one store of an item, makes r of q: items were claimed, one more step of writing was done at a place,
-- n items were taken, or the queue was shut
pub data Becomes (q r : Positions) : Type 0 where
  was_claimed : (items : List ℕ) → 0 < length items → q.shut ≡ false
      → length q.places + length items ≤ q.taken + q.room → r ≡ with_claim q items → Becomes q r
  was_written : (at : ℕ) → q.taken ≤ at → at < length q.places → stage_at q at < 2
      → r ≡ with_write q at (stage_at q at + 1) → Becomes q r
  was_taken : (n : ℕ) → 0 < n → q.taken + n ≤ length q.places
      → ((i : ℕ) → i < n → 2 ≤ stage_at q (q.taken + i)) → r ≡ with_take q n → Becomes q r
  was_shut : r ≡ with_shut q → Becomes q r
