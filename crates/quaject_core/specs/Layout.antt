-- How the machine stores a queue: all places that were ever claimed, side by side, and the place of each run.
use Rattle.std.specs.Prelude.{◌≡◌, ℕ, ◌+◌, nat_lt, Bool, false, ◌&&◌, List, [], ◌∷◌, map, take, drop, slice_index_or}
use Rattle.std.specs.Prelude.{Option, Some, None}
use Rattle.std.specs.List.{slice_get}
use Rattle.std.specs.Coded.{×_prop, Coded-set, coded_ℕ}
use Rattle.event_theory.specs.Runs.{Run}
use Rattle.event_theory.specs.Queues.{Queue}
use Rattle.quaject_core.specs.declared.queueing.StoredItem.{StoredItem}
use Rattle.quaject_core.specs.declared.queueing.Span.{Span}

-- a place that was just claimed, and is not raised
abbrev pub fresh : ℕ → StoredItem
fresh item = record { item = item; raised = false }

abbrev pub item_of : StoredItem → ℕ
item_of place = place.item

abbrev pub flag_of : StoredItem → Bool
flag_of place = place.raised

-- the run of a span: its call, and its part of all items
abbrev pub run_at : List ℕ → Span → Run
run_at items span = record { call = span.call; items = take span.count (drop span.start items) }

-- the flag of the item with this index in a run; false if there is no such item
abbrev pub flag_at : List Bool → ℕ → Option Span → Bool
flag_at flags index None = false
flag_at flags index (Some span) = nat_lt index span.count && slice_index_or flags (span.start + index) false

-- the queue that these stored parts represent
abbrev pub queue_at : ℕ → List Span → List StoredItem → ℕ → Bool → Queue
queue_at capacity spans places taken shut = record {
  history = map (run_at (map item_of places)) spans;
  raised = λ run index. flag_at (map flag_of places) index (slice_get spans run);
  taken = taken;
  capacity = capacity;
  shut = shut;
}

-- the set of the numbers that are marked
abbrev pub set_of : List Bool → ℕ → Bool
set_of marks number = slice_index_or marks number false

-- the runs lie side by side: the first one begins at `start`, each next one at the end of the previous, up to `end`
abbrev pub Laid : ℕ → List Span → ℕ → Type 0
Laid start [] end = start ≡ end
Laid start (span ∷ spans) end = (span.start ≡ start) × Laid (start + span.count) spans end

-- `Laid` has at most one proof
pub Laid-prop : (start : ℕ) (spans : List Span) (end : ℕ) → IsProp (Laid start spans end)
Laid-prop start [] end = Coded-set coded_ℕ start end
Laid-prop start (span ∷ spans) end =
    ×_prop (Coded-set coded_ℕ span.start start) (Laid-prop (start + span.count) spans end)
