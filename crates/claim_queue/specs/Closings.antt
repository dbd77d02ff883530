-- Answers of closing and of shutting a queue.
use Rattle.std.specs.Prelude.{◌≡◌, ◌+◌, ◌%◌, ◌==◌, ◌≤◌, ℕ, Bool, List, [], ◌∷◌, Option, Some, None}
use Rattle.std.specs.Prelude.{if◌then◌else◌, length, map, drop, nat_lt}
use Rattle.table_theory.specs.declared.queues.Positions.{Positions}
use Rattle.table_theory.specs.declared.views.AbsState.{AbsState}
use Rattle.table_theory.specs.Ledgers as ends
pub use Rattle.table_theory.specs.Positioned.{shown}
use Rattle.table_theory.specs.Positioned.{item_of, left_of, with_shut}
use Rattle.table_theory.specs.Listing.{AllRaised, PartsShow}
use Rattle.table_theory.specs.Reads.{read_from}
use Rattle.table_theory.specs.Sharing.{IsWhole}
use Rattle.claim_queue.specs.declared.layout.TheConstants.{SHUT}
use Rattle.claim_queue.specs.Layout.{head_word, data_in, flag_in}
use Rattle.claim_queue.specs.Lines.{lines_put, lines_taken, IsSettled}
use Rattle.claim_queue.specs.Own.{View, part_of, with_shutting}
use Rattle.claim_queue.specs.Rules.{times_shut}

-- the queue is shut; the queue was open exactly if the head word that was found had no shut mark
abbrev pub ShutNow : View → Bool → View → Type 0
ShutNow v was_open w = (head : ℕ) × (m : AbsState Positions) × (was_open ≡ nat_lt head SHUT)
    × ends.Performed v (ends.change head_word head m (with_shut m.object) ∷ []) (with_shutting v.own was_open) w

-- the answer for the position p: the item of its place if the flag is p + 1, else none
abbrev pub left_at : ℕ → List ℕ → ℕ → Option ℕ
left_at room words p = if flag_in words (p % room) == p + 1 then Some (data_in words (p % room)) else None

-- the answers for the n positions from p on
abbrev pub left_from : ℕ → List ℕ → ℕ → ℕ → List (Option ℕ)
left_from room words p n = read_from (left_at room words) p n

-- The queue is closed by an end with the whole share, which has seen all of the queue, and each split was joined. The
-- items left are those put after the items taken, at most one for each place. The lines put are the items put, and the
-- lines taken are the items taken. If the end has raised all that it claimed, each place left has its item
pub record ClosedNow (v : View) (first put taken : ℕ) (left : List (Option ℕ)) : Type 0 where
  pub whole : IsWhole v.member.share
  pub sole : v.seen.ends ≡ 1
  pub joined : v.member.splits ≡ v.member.joins
  pub starts : v.seen.object.first ≡ first
  pub puts : put ≡ length v.seen.object.places
  pub taken_is : taken ≡ v.seen.object.taken
  pub within : put ≤ taken + v.seen.object.room
  pub left_is : left ≡ map shown (drop v.seen.object.taken v.seen.object.places)
  pub shut_once : v.own.shuts ≡ times_shut v.seen.object
  pub listed : PartsShow v.seen.object (part_of v ∷ [])
  pub settled : IsSettled (map item_of v.seen.object.places) taken (lines_put v) (lines_taken v)
  pub raised : AllRaised v.own.runs → left ≡ map Some (left_of v.seen.object)
