-- The place of each buffer between any two steps: in the queue, or with one holder.
use Rattle.std.specs.Prelude.{◌≡◌, ◌≢◌, ◌+◌, ◌<◌, ◌≤◌, ℕ, false, List, drop, length}
use mathlib.Core.Option.{some}
use lib.ListN.{get_elem?}
use Rattle.event_theory.specs.Runs.{flat}
use Rattle.event_theory.specs.Queues.{Queue}
use Rattle.table_theory.specs.Sharing.{total}
use Rattle.table_theory.specs.Times.{first_items}
use Rattle.batch_queue.specs.Own.{View}
use Rattle.pool.specs.Buffers.{all_buffers, times}
use Rattle.pool.specs.Holdings.{held, IsStocked}

-- the number of buffers of the pool, by the queue's first batch, which is all of them; 0 before that batch is claimed
abbrev pub count_in : Queue → ℕ
count_in queue = length (first_items queue.history)

-- the buffers in the queue: those that are put, published or not, and not taken
abbrev pub waiting : Queue → List ℕ
waiting queue = drop queue.taken (flat queue.history)

-- no end holds x, except the one with this number
abbrev pub NoneElseHolds : List View → ℕ → ℕ → Type 0
NoneElseHolds views number x = (j : ℕ) (v : View) → get_elem? views j ≡ some v → j ≢ number → held v x ≡ 0

-- no end holds x
abbrev pub NoneHolds : List View → ℕ → Type 0
NoneHolds views x = (j : ℕ) (v : View) → get_elem? views j ≡ some v → held v x ≡ 0

-- The buffer x has one owner: it is in the queue once, and no end holds it; or one end holds it once, no other end
-- holds it, and it is not in the queue
pub data HasOneOwner (queue : List ℕ) (views : List View) (x : ℕ) : Type 0 where
  the_queue : times x queue ≡ 1 → NoneHolds views x → HasOneOwner queue views x
  the_end : (number : ℕ) (v : View) → get_elem? views number ≡ some v → held v x ≡ 1 → NoneElseHolds views number x
      → times x queue ≡ 0 → HasOneOwner queue views x

-- no end shut the queue
abbrev pub NoneShut : List View → Type 0
NoneShut views = (j : ℕ) (v : View) → get_elem? views j ≡ some v → v.own.shuts ≡ 0

-- The queue's first batch is all buffers, and an end that has seen it knows how many there are. The owners of each
-- buffer add up to one, so each buffer has one owner. Nobody has any other number. If no end shut the queue, it is open
pub record EachOnce (count : ℕ) (queue : Queue) (views : List View) : Type 0 where
  pub first : first_items queue.history ≡ all_buffers count
  pub known : (j : ℕ) (v : View) (n : ℕ) → get_elem? views j ≡ some v → IsStocked n v → count ≡ n
  pub sum : (x : ℕ) → total (λ v. held v x) views + times x (waiting queue) ≡ times x (all_buffers count)
  pub one : (x : ℕ) → x < count → HasOneOwner (waiting queue) views x
  pub other : (x : ℕ) → count ≤ x → (times x (waiting queue) ≡ 0) × NoneHolds views x
  pub is_open : NoneShut views → queue.shut ≡ false
