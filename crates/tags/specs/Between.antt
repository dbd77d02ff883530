-- The place of each tag between any two steps: in the queue, or with one end.
use Rattle.std.specs.Prelude.{◌≡◌, ◌≢◌, ◌⊎◌, ◌+◌, ◌<◌, ℕ, false, List, [], drop}
use mathlib.Core.Option.{some}
use lib.ListN.{get_elem?}
use Rattle.event_theory.specs.Runs.{flat}
use Rattle.event_theory.specs.Queues.{Queue}
use Rattle.table_theory.specs.Positioned.{head_of}
use Rattle.table_theory.specs.Sharing.{total}
use Rattle.table_theory.specs.Times.{first_items, times}
use Rattle.claim_queue.specs.Own.{View}
use Rattle.tags.specs.Holdings.{count_in, held}
use Rattle.tags.specs.Lending.{all_tags}

-- the numbers in the queue: those that are put, raised or not, and not taken
abbrev pub waiting : Queue → List ℕ
waiting queue = drop queue.taken (flat queue.history)

-- no end holds x, except the one with this number
abbrev pub NoneElseHolds : List View → ℕ → ℕ → Type 0
NoneElseHolds views number x = (j : ℕ) (v : View) → get_elem? views j ≡ some v → j ≢ number → held v x ≡ 0

-- no end holds x
abbrev pub NoneHolds : List View → ℕ → Type 0
NoneHolds views x = (j : ℕ) (v : View) → get_elem? views j ≡ some v → held v x ≡ 0

-- The tag x has one owner: it is in the queue once, and no end holds it; or one end holds it once, no other end holds
-- it, and it is not in the queue
pub data HasOneOwner (queue : List ℕ) (views : List View) (x : ℕ) : Type 0 where
  the_queue : times x queue ≡ 1 → NoneHolds views x → HasOneOwner queue views x
  the_end : (number : ℕ) (v : View) → get_elem? views number ≡ some v → held v x ≡ 1 → NoneElseHolds views number x
      → times x queue ≡ 0 → HasOneOwner queue views x

-- The queue's first line is all tags, once an end has seen a put. The owners of each number add up to the first line.
-- So each tag that the first line has, has one owner, and nobody has any other number. The queue is open, unless an end
-- shut it
pub record EachOnce (count : ℕ) (queue : Queue) (views : List View) : Type 0 where
  pub counts : (j : ℕ) (v : View) → get_elem? views j ≡ some v → count_in v ≡ count
  pub first : (queue.history ≡ []) ⊎ (first_items queue.history ≡ all_tags count)
  pub begun : (j : ℕ) (v : View) → get_elem? views j ≡ some v → count < head_of v.seen.object
      → first_items queue.history ≡ all_tags count
  pub sum : (x : ℕ) → total (λ v. held v x) views + times x (waiting queue) ≡ times x (first_items queue.history)
  pub one : (x : ℕ) → 0 < times x (first_items queue.history) → HasOneOwner (waiting queue) views x
  pub other : (x : ℕ) → times x (first_items queue.history) ≡ 0
      → (times x (waiting queue) ≡ 0) × NoneHolds views x
  pub is_open : ((j : ℕ) (v : View) → get_elem? views j ≡ some v → v.own.shuts ≡ 0) → queue.shut ≡ false
