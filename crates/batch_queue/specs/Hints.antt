-- The answers of a hint of the number of items, and of a look at the queue.
use Rattle.std.specs.Prelude.{◌≡◌, ◌⊎◌, ◌+◌, ◌-◌, ◌%◌, ◌<◌, ◌≤◌, ℕ, List, [], ◌∷◌, ◌++◌, MatchBool}
use Rattle.table_theory.specs.declared.views.AbsState.{AbsState}
use Rattle.table_theory.specs.Ledgers.{Step, load, Performed}
use Rattle.batch_queue.specs.declared.layout.TheConstants.{SHUT}
use Rattle.batch_queue.specs.declared.look.QueueLook.{QueueLook}
use Rattle.batch_queue.specs.declared.rule.BatchState.{BatchState}
use Rattle.batch_queue.specs.Layout.{head_word, tail_word}
use Rattle.batch_queue.specs.Object.{phase_at}
use Rattle.batch_queue.specs.Own.{View}
use Rattle.batch_queue.specs.Walks.{FollowedBy}

-- the tail was loaded, and then the head: `count` is how far the head is past the tail
pub record LookedAround (v : View) (count : ℕ) (w : View) : Type 0 where
  pub tail : ℕ
  pub at_tail : AbsState BatchState
  pub head : ℕ
  pub at_head : AbsState BatchState
  pub is : count ≡ head % SHUT - tail
  pub made : Performed v (load tail_word tail at_tail ∷ load head_word head at_head ∷ []) v.own w

-- by what the end has found, all positions from the tail and before `to` are published, or the tail has moved on
abbrev pub IsUpTo : View → ℕ → ℕ → Type 0
IsUpTo w tail to = (tail < w.seen.object.taken)
    ⊎ ((i : ℕ) → tail ≤ i → i < to → 1 ≤ phase_at w.seen.object i)

-- the tail was loaded, and then marks of published batches were followed from it, as far as they lead within `room`
-- positions
pub record FoundUp (room tail to : ℕ) (v w : View) : Type 0 where
  pub at_tail : AbsState BatchState
  pub loads : List (Step BatchState)
  pub followed : FollowedBy 0 (tail + room) room tail to loads
  pub made : Performed v (load tail_word tail at_tail ∷ loads) v.own w

-- the tail was loaded, then marks of published batches were followed from it (`FoundUp`), and then the head was loaded
pub record Looked (room : ℕ) (v : View) (look : QueueLook) (w : View) : Type 0 where
  pub at_tail : AbsState BatchState
  pub loads : List (Step BatchState)
  pub followed : FollowedBy 0 (look.tail + room) room look.tail look.published loads
  pub head : ℕ
  pub at_head : AbsState BatchState
  pub head_is : look.head ≡ head % SHUT
  pub shut_is : MatchBool look.shut (SHUT ≤ head) (head < SHUT)
  pub made : Performed v (load tail_word look.tail at_tail ∷ (loads ++ load head_word head at_head ∷ [])) v.own w
