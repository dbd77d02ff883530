-- Walks over the flags from the tail on, and the answer of a look at the queue.
use Rattle.std.specs.Prelude.{◌≡◌, ◌≢◌, ◌+◌, ◌-◌, ◌<◌, ◌≤◌, ℕ, min, true, List, [], ◌∷◌, ◌++◌, length}
use Rattle.table_theory.specs.declared.queues.Positions.{Positions}
use Rattle.table_theory.specs.declared.views.AbsState.{AbsState}
use Rattle.table_theory.specs.Ledgers.{Step, load, Performed}
use Rattle.table_theory.specs.Positioned.{head_of, tail_of, stage_at}
use Rattle.claim_queue.specs.declared.look.QueueLook.{QueueLook}
use Rattle.claim_queue.specs.Layout.{head_word, tail_word, flag_word, mark}
use Rattle.claim_queue.specs.Own.{View}

-- the loads of flags that were found raised, one after the other from this position on, each at its moment
abbrev pub raised_flags : ℕ → ℕ → List (AbsState Positions) → List (Step Positions)
raised_flags room position [] = []
raised_flags room position (m ∷ more) =
    load (flag_word room position) (position + 1) m ∷ raised_flags room (position + 1) more

-- The end of a walk that found `count` flags raised from the tail on: `count` is the limit `most`, or the next flag was
-- not raised. `loads` are the walk's loads after the raised flags
pub data WalkEnd (room tail most count : ℕ) (loads : List (Step Positions)) : Type 0 where
  at_most : count ≡ most → loads ≡ [] → WalkEnd room tail most count loads
  at_gap : (flag : ℕ) → (m : AbsState Positions) → count < most → flag ≢ tail + count + 1
      → loads ≡ load (flag_word room (tail + count)) flag m ∷ [] → WalkEnd room tail most count loads

-- a walk over the flags from the tail on, with all its loads in order
pub record FlagWalk (room tail most count : ℕ) (loads : List (Step Positions)) : Type 0 where
  pub raised : List (AbsState Positions)
  pub count_is : length raised ≡ count
  pub last : List (Step Positions)
  pub ends : WalkEnd room tail most count last
  pub loads_are : loads ≡ raised_flags room tail raised ++ last

-- the end made a walk over the flags from the tail on, and did nothing else
pub record HasWalked (room tail most count : ℕ) (v w : View) : Type 0 where
  pub loads : List (Step Positions)
  pub walked : FlagWalk room tail most count loads
  pub made : Performed v loads v.own w

-- the n places from this position on were raised, whether or not they were taken since
abbrev pub AreRaised : Positions → ℕ → ℕ → Type 0
AreRaised q position n = (i : ℕ) → i < n → 2 ≤ stage_at q (position - q.first + i)

-- the place at this position is not raised, or the tail is past it
abbrev pub IsNotRaised : Positions → ℕ → Type 0
IsNotRaised q position = tail_of q ≤ position → stage_at q (position - q.first) < 2

-- The answer of a look at a queue of `room` places, and the queue that its last load found. The tail and the head may
-- have moved on by then
pub record LookAgrees (room : ℕ) (look : QueueLook) (q : Positions) : Type 0 where
  pub ordered : look.tail ≤ look.head
  pub first : q.first ≤ look.tail
  pub tail : look.tail ≤ tail_of q
  pub head : look.head ≤ head_of q
  pub shut : look.shut ≡ true → q.shut ≡ true
  pub within : look.raised ≤ min room (look.head - look.tail)
  pub raised : AreRaised q look.tail look.raised
  pub next : look.raised < min room (look.head - look.tail) → IsNotRaised q (look.tail + look.raised)

-- The tail was loaded, then the head with its shut mark, and then the flags from that tail on, up to that head and for
-- at most `room` places
pub record HasLooked (room : ℕ) (v : View) (look : QueueLook) (w : View) : Type 0 where
  pub at_tail : AbsState Positions
  pub at_head : AbsState Positions
  pub flags : List (Step Positions)
  pub walked : FlagWalk room look.tail (min room (look.head - look.tail)) look.raised flags
  pub made : Performed v (load tail_word look.tail at_tail
      ∷ load head_word (look.head + mark look.shut) at_head ∷ flags) v.own w
