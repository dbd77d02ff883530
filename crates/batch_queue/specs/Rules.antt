-- The rule: there is a lawful queue that the words, the slots and the views show.
use Rattle.std.specs.Prelude.{◌≡◌, ◌≢◌, ◌⊎◌, ℕ, ◌+◌, ◌%◌, ◌<◌, ◌≤◌, List, map, length, slice_index_or}
use Rattle.std.specs.Prelude.{if◌then◌else◌}
use mathlib.Core.Option.{Option, some}
use lib.ListN.{get_elem?}
use Rattle.atomic_table.specs.Table.{State}
use Rattle.table_theory.specs.declared.queues.Batch.{Batch}
use Rattle.table_theory.specs.declared.views.AbsState.{AbsState}
use Rattle.table_theory.specs.Listing.{ViewsShow}
use Rattle.table_theory.specs.Ledgers.{TableInv, first_of}
use Rattle.table_theory.specs.Protocols.{Condition, HoldsWith, placed_lines}
use Rattle.table_theory.specs.Ruled as ruled
use Rattle.table_theory.specs.Sharing.{total}
use Rattle.batch_queue.specs.declared.rule.BatchState.{BatchState}
use Rattle.batch_queue.specs.declared.rule.EndRecord.{EndRecord}
use Rattle.batch_queue.specs.declared.rule.Shape.{Shape}
use Rattle.batch_queue.specs.Object.{items_of, phase_at, IsBatch, Grows, empty}
use Rattle.batch_queue.specs.Own.{View, nothing_did, part_of, of_batches, Holds, HasRun}
use Rattle.batch_queue.specs.Placed.{positions_of}

-- The home of a slot, if p is the position of the window with its place. If p is published and not taken, the home has
-- the item of p. If p is not claimed, or its place is given back, the home has some number
pub record HomeShows (o : BatchState) (p : ℕ) (home : Option (Option ℕ)) : Type 0 where
  pub free : length (items_of o) ≤ p → (y : ℕ) × (home ≡ some (some y))
  pub up : phase_at o p ≡ 1 → home ≡ some (some (slice_index_or (items_of o) p 0))
  pub back : 3 ≤ phase_at o p → (y : ℕ) × (home ≡ some (some y))

-- An end's record agrees with the queue. Each of its runs is a batch, and each of its takings is a taking of the queue.
-- The slots that it holds are of claimed positions of one phase: of a run with nothing published, or of a taking
pub record OwnShows (o : BatchState) (d : EndRecord) : Type 0 where
  pub runs : (m : ℕ) (e : Batch) → get_elem? d.runs m ≡ some e → IsBatch o.batches e.start (e.start + length e.places)
  pub takes : (m : ℕ) (e : Batch) → get_elem? d.takes m ≡ some e → IsBatch o.takings e.start (e.start + length e.places)
  pub kind : d.held.phase ≢ 1
  pub batch : d.held.phase ≡ 0 → 0 < d.held.count → IsBatch o.batches d.held.start (d.held.start + d.held.count)
  pub run : d.held.phase ≡ 0 → 0 < d.held.count → HasRun d
  pub taking : d.held.phase ≡ 2 → 0 < d.held.count → IsBatch o.takings d.held.start (d.held.start + d.held.count)
  pub holds : (i : ℕ) → Holds d.held i → (phase_at o i ≡ d.held.phase) × (i < length (items_of o))

-- no two ends hold the slot of one position
abbrev pub Apart : List View → Type 0
Apart views = (j k : ℕ) (v w : View) → get_elem? views j ≡ some v → get_elem? views k ≡ some w → j ≢ k → (i : ℕ)
    → Holds v.own.held i → Holds w.own.held i → ⊥

-- an end holds the slot of this position
pub record IsHeld (views : List View) (i : ℕ) : Type 0 where
  pub number : ℕ
  pub view : View
  pub here : get_elem? views number ≡ some view
  pub in_held : Holds view.own.held i

abbrev pub shuts_of : View → ℕ
shuts_of v = v.own.shuts

-- the number of times that the queue was shut: 0 or 1
abbrev pub times_shut : BatchState → ℕ
times_shut o = if o.shut then 1 else 0

abbrev pub parts_of : View → ℕ
parts_of v = v.own.parts

pub record Rule (key : Shape) (s : State ℕ View) : Type 0 where
  pub now : AbsState BatchState
  pub room : now.object.room ≡ key.room
  pub stands : TableInv of_batches nothing_did (empty key) now s.words s.views
  pub listed : ViewsShow (positions_of now.object) (map part_of s.views)
  pub seen : (j : ℕ) (v : View) → get_elem? s.views j ≡ some v → Grows v.seen.object now.object
  pub homes : (p : ℕ) → now.object.freed ≤ p → p < now.object.freed + now.object.room
      → HomeShows now.object p (get_elem? s.homes (p % now.object.room))
  pub owns : (j : ℕ) (v : View) → get_elem? s.views j ≡ some v → OwnShows now.object v.own
  pub apart : Apart s.views
  pub shut_once : total shuts_of s.views ≡ times_shut now.object
  pub parted_once : total parts_of s.views ≡ length now.object.parted
  -- the slot of a position that is claimed and not published, or taken and not given back, is held by an end
  pub owned : (i : ℕ) → i < length (items_of now.object)
      → (phase_at now.object i ≡ 0) ⊎ (phase_at now.object i ≡ 2) → IsHeld s.views i

-- the protocol allows what the end put and took; the queue's first position is 0
abbrev pub KeepsTo : Condition → View → Type 0
KeepsTo allows v = allows 0 (placed_lines v.own.runs) (placed_lines v.own.takes)

-- the rule of a queue under a client's protocol: the rule holds, and the protocol allows what each end put and took
abbrev pub RuleWith : Condition → Shape → State ℕ View → Type 0
RuleWith allows key s = HoldsWith (Rule key) (KeepsTo allows) s

-- the view of the first end of a new queue
abbrev pub newcomer : Shape → View
newcomer key = first_of nothing_did (empty key)

-- the queue and the number of ends that the rule names
abbrev pub now_of : (key : Shape) (s : State ℕ View) → Rule key s → AbsState BatchState
now_of key s k = k.now

-- at the end's last step the rule held, and the end saw the queue of that moment
abbrev pub InvHeldOf : View → Type 0
InvHeldOf v = ruled.InvHolds Rule now_of v
