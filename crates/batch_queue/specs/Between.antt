-- The state between any two steps: a lawful queue of the core that the words, the slots and the views show.
use Rattle.std.specs.Prelude.{◌≡◌, ◌⊎◌, ℕ, ◌+◌, ◌*◌, ◌%◌, ◌<◌, ◌≤◌, true, false, if◌then◌else◌, List, map, length, take}
use Rattle.std.specs.Prelude.{slice_index_or}
use Rattle.std.specs.List.{slice_get}
use mathlib.Core.Option.{some}
use lib.ListN.{get_elem?}
use Rattle.atomic_table.specs.Table.{State}
use Rattle.event_theory.specs.Runs.{flat}
use Rattle.event_theory.specs.Queues.{Queue}
use Rattle.event_theory.specs.Lawful.{IsLawfulQueue}
use Rattle.table_theory.specs.declared.queues.Batch.{Batch}
use Rattle.table_theory.specs.declared.views.AbsState.{AbsState}
use Rattle.table_theory.specs.Batches.{line_of}
use Rattle.table_theory.specs.Filing.{Owned, ListedOnce, entry_of}
use Rattle.table_theory.specs.Ledgers.{AreValidViews}
use Rattle.table_theory.specs.Listing.{all_places, Adjacent}
use Rattle.table_theory.specs.Positioned.{blank, item_of}
use Rattle.table_theory.specs.QueueOf.{run_in, published_in, queue_of, IsHistory}
use Rattle.table_theory.specs.Sharing.{total}
use Rattle.table_theory.specs.Unused.{AreZero}
use Rattle.batch_queue.specs.declared.layout.TheConstants.{POSITIONS}
use Rattle.batch_queue.specs.declared.rule.BatchState.{BatchState}
use Rattle.batch_queue.specs.declared.rule.Shape.{Shape}
use Rattle.batch_queue.specs.Layout.{head_word, tail_word, free_word, ends_word, mark_word, width, IsUsed, mark}
use Rattle.batch_queue.specs.Object.{Lawful, Grows, empty}
use Rattle.batch_queue.specs.Own.{View, nothing_did, of_batches}
use Rattle.batch_queue.specs.Placed.{positions_of}
use Rattle.batch_queue.specs.Rules.{shuts_of, parts_of}
use Rattle.batch_queue.specs.Shown.{WordsShow}

-- The state shows the run e, which has the number k. All its items are raised, or none. If they are raised and the tail
-- has not passed its start, its mark has its end. The slot of each place that is raised and not taken has its item
pub record RunShows (key : Shape) (s : State ℕ View) (c : Queue) (k : ℕ) (e : Batch) : Type 0 where
  pub whole : ((i : ℕ) → i < length e.places → c.raised k i ≡ true)
      ⊎ ((i : ℕ) → i < length e.places → c.raised k i ≡ false)
  pub marked : c.raised k 0 ≡ true → c.taken ≤ e.start
      → slice_index_or s.words (mark_word key.room e.start) 0 ≡ 2 * (e.start + length e.places)
  pub home : (i : ℕ) → i < length e.places → c.raised k i ≡ true → c.taken ≤ e.start + i
      → get_elem? s.homes ((e.start + i) % key.room) ≡ some (some (slice_index_or e.places i blank).item)

-- the words, the slots and the views show the queue
pub record IsShown (key : Shape) (s : State ℕ View) (c : Queue) : Type 0 where
  pub runs : List (Owned Batch)
  pub history : c.history ≡ map run_in runs
  -- each run of a view is in the history, and each run of the history is in one view, once
  pub once : ListedOnce runs (map (λ view. view.own.runs) s.views)
  -- each run begins where the previous run ends: no two runs overlap, and no run is within another
  pub side_by_side : Adjacent 0 runs
  pub raised : (run index : ℕ) → c.raised run index ≡ published_in (slice_get runs run) index
  pub each : (k : ℕ) (run : Owned Batch) → get_elem? runs k ≡ some run → RunShows key s c k run.2
  pub takings : List (Owned Batch)
  -- each taking is in one view, once; the takings have each position below the tail once, with the item of its run
  pub taken_once : ListedOnce takings (map (λ view. view.own.takes) s.views)
  pub taken_in_order : Adjacent 0 takings
  pub taken_items : map item_of (all_places takings) ≡ take c.taken (flat c.history)
  pub capacity : c.capacity ≡ key.room
  pub long : length s.words ≡ width key.room
  pub bounded : length (flat c.history) < POSITIONS
  pub head : slice_index_or s.words head_word 0 ≡ length (flat c.history) + mark c.shut
  pub tail : slice_index_or s.words tail_word 0 ≡ c.taken
  -- the window begins no later than the tail, and has all positions that are claimed from its beginning on
  pub free : slice_index_or s.words free_word 0 ≤ c.taken
  pub within : length (flat c.history) ≤ slice_index_or s.words free_word 0 + key.room
  -- each word is 0 except the head, the tail, the free position, the number of ends, and the marks
  pub unused : AreZero (IsUsed key.room) s.words

-- A lawful queue is shown. Its runs are the batches, and its takings are the first items, each in the order of claims.
-- If no end parted a batch, each taking is a group of whole batches
pub record ShowsQueue (key : Shape) (s : State ℕ View) : Type 0 where
  pub now : AbsState BatchState
  pub state_lawful : Lawful now.object
  pub queue : Queue
  pub lawful : IsLawfulQueue queue
  pub shown : IsShown key s queue
  pub same : queue ≡ queue_of (positions_of now.object) shown.runs
  pub history : IsHistory (positions_of now.object) shown.runs
  pub batches : map line_of (map entry_of shown.runs) ≡ now.object.batches
  pub takings : map line_of (map entry_of shown.takings) ≡ now.object.takings
  pub words : WordsShow now.object s.words
  -- each end has seen the queue no later than now
  pub seen : (j : ℕ) (v : View) → get_elem? s.views j ≡ some v → Grows v.seen.object now.object
  -- if the queue is shut, one end has shut it, once; if the queue is open, no end has
  pub shut_once : total shuts_of s.views ≡ (if queue.shut then 1 else 0)
  pub parted_once : total parts_of s.views ≡ length now.object.parted
  -- the ends word is the number of ends that exist
  pub number : slice_index_or s.words ends_word 0 ≡ now.ends

-- A lawful queue is shown. The ends' steps lead to it from the empty queue, and each end has seen all steps up to its
-- own last step. The number of ends is the number of ends that exist
pub record ShowsEnds (key : Shape) (s : State ℕ View) : Type 0 where
  pub shows : ShowsQueue key s
  pub true_ends : AreValidViews of_batches nothing_did (empty key) shows.now s.views
