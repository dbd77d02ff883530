-- The ends at which a quaject takes and puts lines.
use Rattle.std.specs.Prelude.{◌≡◌, ℕ, ◌<◌, List, [], ◌∷◌, length, Option, Some, None}
use Rattle.std.specs.List.{slice_get}
use Rattle.atomic_table.specs.Seated.{TableId}
use Rattle.table_theory.specs.Listing.{AllRaised}
use Rattle.claim_queue.specs.Plain.{ClaimQueue}
use Rattle.claim_queue.specs.declared.ends.QueueEnd.{QueueEnd}
use Rattle.claim_queue.specs.Own.{View}
use Rattle.claim_queue.specs.Handles.{view_of, call_of, IsEndOf}
use Rattle.quajects.specs.declared.ports.Port.{Port}

-- the index names a queue, and the end is one of that queue's
pub record IsEndAt {n : ℕ} (queues : List (ClaimQueue n)) (index : ℕ) (end : QueueEnd n) : Type 0 where
  pub named : index < length queues
  pub its : (queue : ClaimQueue n) → slice_get queues index ≡ Some queue → IsEndOf queue end

-- the end has claimed nothing and taken nothing
abbrev pub IsUnused : View → Type 0
IsUnused v = (v.own.runs ≡ []) × (v.own.takes ≡ [])

-- the end with the index of its queue
abbrev pub port : {n : ℕ} → ℕ → QueueEnd n → Port n
port index end = record { index = index; end = end }

-- The parts of a port that no try changes: the index of its queue, and its end's table, number and share of the queue;
-- and how often that end has shut the queue
pub record Post : Type 0 where
  pub index : ℕ
  pub table : TableId
  pub call : ℕ
  pub share : ℕ
  pub shuts : ℕ

-- the post of an end of the queue with this index
abbrev pub post_of : {n : ℕ} → ℕ → QueueEnd n → Post
post_of index end = record {
  index = index;
  table = end.seat.table_id;
  call = call_of end;
  share = (view_of end).member.share;
  shuts = (view_of end).own.shuts;
}

-- the post of a port, if there is one
abbrev pub post_at : {n : ℕ} → Option (Port n) → Option Post
post_at None = None
post_at (Some port) = Some (post_of port.index port.end)

-- none of the ends at these posts has shut its queue
abbrev pub NoneShut : List (Option Post) → Type 0
NoneShut [] = Unit {0}
NoneShut (None ∷ posts) = NoneShut posts
NoneShut (Some post ∷ posts) = (post.shuts ≡ 0) × NoneShut posts

-- each port's end is one of the queue that it names
abbrev pub AllFit : {n : ℕ} → List (ClaimQueue n) → List (Option (Port n)) → Type 0
AllFit queues [] = Unit {0}
AllFit queues (None ∷ ports) = AllFit queues ports
AllFit queues (Some port ∷ ports) = IsEndAt queues port.index port.end × AllFit queues ports

-- each port's end has raised all that it claimed
abbrev pub AllUp : {n : ℕ} → List (Option (Port n)) → Type 0
AllUp [] = Unit {0}
AllUp (None ∷ ports) = AllUp ports
AllUp (Some port ∷ ports) = AllRaised (view_of port.end).own.runs × AllUp ports
