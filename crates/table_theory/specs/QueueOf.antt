-- The queue that a table's positions are: its runs are the history, in the order of their claims.
use Rattle.std.specs.Prelude.{◌≡◌, ℕ, ◌<◌, nat_le, Bool, false, List, map, length, slice_index_or, Option, Some, None}
use Rattle.std.specs.Prelude.{slice_set, Result, Ok}
use Rattle.std.specs.List.{slice_get}
use mathlib.Core.Option.{some}
use lib.ListN.{get_elem?}
use Rattle.event_theory.specs.declared.refusal.Refusal.{Refusal}
use Rattle.table_theory.specs.declared.queues.Cell.{Cell}
use Rattle.table_theory.specs.declared.queues.Batch.{Batch}
use Rattle.table_theory.specs.declared.queues.Positions.{Positions}
use Rattle.event_theory.specs.Runs.{Run}
use Rattle.event_theory.specs.Queues.{Queue}
use Rattle.event_theory.specs.Lawful.{IsLawfulQueue}
use Rattle.table_theory.specs.Positioned.{blank, item_of}
use Rattle.table_theory.specs.Filing.{Owned}
use Rattle.table_theory.specs.declared.queues.QueueView.{QueueView}
use Rattle.table_theory.specs.Listing.{all_places, Adjacent, ViewsShow}

-- the run for a seat's batch: the seat is its call
abbrev pub run_in : Owned Batch → Run
run_in o = record { call = o.0; items = map item_of o.2.places }

-- both stores of a place are done
abbrev pub is_published : Cell → Bool
is_published e = nat_le 2 e.stage

abbrev pub published_in : Option (Owned Batch) → ℕ → Bool
published_in None index = false
published_in (Some o) index = is_published (slice_index_or o.2.places index blank)

abbrev pub queue_of : Positions → List (Owned Batch) → Queue
queue_of q runs = record {
  history = map run_in runs;
  raised = λ run index. published_in (slice_get runs run) index;
  taken = q.taken;
  capacity = q.room;
  shut = q.shut;
}

-- the runs, in their order, have each place once, side by side from the first position, and each run has a place
pub record IsHistory (q : Positions) (runs : List (Owned Batch)) : Type 0 where
  pub solid : (k : ℕ) (o : Owned Batch) → get_elem? runs k ≡ some o → 0 < length o.2.places
  pub places : all_places runs ≡ q.places
  pub adjacent : Adjacent q.first runs

-- A step of the end `seat`, which knew v and then knows w, makes r of the positions q. The step is this event of the
-- queue that some views show, with v as the view of `seat`
pub record IsEvent (q r : Positions) (seat : ℕ) (v w : QueueView) (event : Queue → Result Queue Refusal) : Type 0 where
  pub views : List QueueView
  pub here : get_elem? views seat ≡ some v
  pub shown : ViewsShow q views
  pub new_shown : ViewsShow r (slice_set views seat w)
  pub lawful : IsLawfulQueue (queue_of q shown.lists.runs)
  pub made : event (queue_of q shown.lists.runs) ≡ Ok (queue_of r new_shown.lists.runs)

-- no event, as for the store of an item and for each load
abbrev pub no_event : Queue → Result Queue Refusal
no_event q = Ok q

-- a step makes r of the positions q: it is this event of the queue with the history `runs`, and leaves `left`
pub record IsEventOf (q : Positions) (runs : List (Owned Batch)) (event : Queue → Result Queue Refusal) (r : Positions)
    (left : List (Owned Batch)) : Type 0 where
  pub lawful : IsLawfulQueue (queue_of q runs)
  pub made : event (queue_of q runs) ≡ Ok (queue_of r left)
  pub history : IsHistory r left
