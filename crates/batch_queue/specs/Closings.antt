-- Answers of closing and of shutting a queue.
use Rattle.std.specs.Prelude.{◌≡◌, ◌+◌, ◌≤◌, ℕ, Bool, List, [], ◌∷◌, length, drop, nat_lt}
use Rattle.table_theory.specs.declared.views.AbsState.{AbsState}
use Rattle.table_theory.specs.Ledgers as ends
use Rattle.table_theory.specs.Listing.{PartsShow}
use Rattle.table_theory.specs.Sharing.{IsWhole}
use Rattle.batch_queue.specs.declared.layout.TheConstants.{SHUT}
use Rattle.batch_queue.specs.declared.rule.BatchState.{BatchState}
use Rattle.batch_queue.specs.Layout.{head_word}
use Rattle.batch_queue.specs.Lines.{lines_put, lines_taken, times_parted, AreInOrder, IsSettled}
use Rattle.batch_queue.specs.Object.{items_of, with_shut, AreGroups}
use Rattle.batch_queue.specs.Own.{View, part_of, with_shutting}
use Rattle.batch_queue.specs.Placed.{positions_of}
use Rattle.batch_queue.specs.Rules.{times_shut}

-- the queue is shut; the queue was open exactly if the head word that was found had no shut mark
abbrev pub ShutNow : View → Bool → View → Type 0
ShutNow v was_open w = (head : ℕ) × (m : AbsState BatchState) × (was_open ≡ nat_lt head SHUT)
    × ends.Performed v (ends.change head_word head m (with_shut m.object) ∷ []) (with_shutting v.own was_open) w

-- The queue is closed by an end with the whole share, which has seen all of the queue, and each split was joined. The
-- items put are those taken and then those left, at most one left for each place. The batches put are the queue's, each
-- once, and the lines taken are its first items in order, each once. If no end parted a batch, the lines taken are the
-- first batches in groups: so each batch was taken whole, or is left whole
pub record ClosedNow (v : View) (put taken : ℕ) (left : List ℕ) : Type 0 where
  pub whole : IsWhole v.member.share
  pub sole : v.seen.ends ≡ 1
  pub joined : v.member.splits ≡ v.member.joins
  pub puts : put ≡ length (items_of v.seen.object)
  pub taken_is : taken ≡ v.seen.object.taken
  pub within : put ≤ taken + v.seen.object.room
  pub left_is : left ≡ drop taken (items_of v.seen.object)
  pub settled : IsSettled (items_of v.seen.object) taken (lines_put v) (lines_taken v)
  pub batches : AreInOrder v.seen.object.batches (lines_put v)
  pub takings : AreInOrder v.seen.object.takings (lines_taken v)
  pub parts : times_parted v ≡ length v.seen.object.parted
  pub groups : times_parted v ≡ 0 → AreGroups v.seen.object.batches v.seen.object.takings
  pub shut_once : v.own.shuts ≡ times_shut v.seen.object
  pub listed : PartsShow (positions_of v.seen.object) (part_of v ∷ [])
