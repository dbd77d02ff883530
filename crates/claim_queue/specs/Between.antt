-- The state between any two steps: a lawful queue of the core that the words and the views show.
use Rattle.std.specs.Prelude.{◌≡◌, ℕ, ◌+◌, ◌%◌, ◌<◌, ◌≤◌, true, false, if◌then◌else◌, List, map, length, take}
use Rattle.std.specs.Prelude.{slice_index_or}
use Rattle.std.specs.List.{slice_get}
use mathlib.Core.Option.{some}
use lib.ListN.{get_elem?}
use Rattle.atomic_table.specs.Table.{State}
use Rattle.table_theory.specs.declared.positions.TheConstants.{POSITIONS}
use Rattle.table_theory.specs.declared.queues.Batch.{Batch}
use Rattle.table_theory.specs.declared.queues.Positions.{Positions}
use Rattle.event_theory.specs.Runs.{flat, pairs}
use Rattle.event_theory.specs.Queues.{Queue, is_raised}
use Rattle.event_theory.specs.Lawful.{IsLawfulQueue}
use Rattle.table_theory.specs.Positioned.{Grows, item_of}
use Rattle.table_theory.specs.Filing.{Owned, ListedOnce}
use Rattle.table_theory.specs.Listing.{all_places, Adjacent}
use Rattle.table_theory.specs.QueueOf.{run_in, published_in, queue_of, IsHistory}
use Rattle.claim_queue.specs.declared.rule.Shape.{Shape}
use Rattle.table_theory.specs.declared.views.AbsState.{AbsState}
use Rattle.table_theory.specs.Ledgers.{AreValidViews}
use Rattle.table_theory.specs.Sharing.{total}
use Rattle.table_theory.specs.Rests.{PlacesRest}
use Rattle.table_theory.specs.Unused.{AreZero}
use Rattle.claim_queue.specs.Changes.{empty}
use Rattle.claim_queue.specs.Own.{View, nothing_did, of_queues}
use Rattle.claim_queue.specs.Rules.{shuts_of}
use Rattle.claim_queue.specs.Layout.{head_word, tail_word, ends_word, width, IsUsed, mark, data_in, flag_in}

-- the pair (run, index) of the item with this number
abbrev pub pair_at : Queue → ℕ → ℕ × ℕ
pair_at c i = slice_index_or (pairs c.history) i (0, 0)

-- The item with the number i has the position p. If the item is raised, the flag of the place is p + 1 and the data
-- word is the item. Else the flag is at most p
pub record PlaceIs (c : Queue) (room : ℕ) (words : List ℕ) (i p : ℕ) : Type 0 where
  pub raised : is_raised c (pair_at c i) ≡ true → flag_in words (p % room) ≡ p + 1
  pub item : is_raised c (pair_at c i) ≡ true → data_in words (p % room) ≡ slice_index_or (flat c.history) i 0
  pub claimed : is_raised c (pair_at c i) ≡ false → flag_in words (p % room) ≤ p

-- the words and the views show the queue
pub record IsShown (key : Shape) (s : State Unit View) (c : Queue) : Type 0 where
  pub runs : List (Owned Batch)
  pub history : c.history ≡ map run_in runs
  -- each run of a view is in the history, and each run of the history is in one view, once
  pub once : ListedOnce runs (map (λ view. view.own.runs) s.views)
  -- the first run begins at the first position, and each other run begins where the previous run ends
  pub side_by_side : Adjacent key.first runs
  pub raised : (run index : ℕ) → c.raised run index ≡ published_in (slice_get runs run) index
  pub takings : List (Owned Batch)
  -- each taking is in one view, once; the takings have each position below the tail once, with the item of its run
  pub taken_once : ListedOnce takings (map (λ view. view.own.takes) s.views)
  pub taken_in_order : Adjacent key.first takings
  pub taken_items : map item_of (all_places takings) ≡ take c.taken (flat c.history)
  pub capacity : c.capacity ≡ key.room
  pub long : length s.words ≡ width key.room
  pub bounded : key.first + length (flat c.history) < POSITIONS
  pub head : slice_index_or s.words head_word 0 ≡ key.first + length (flat c.history) + mark c.shut
  pub tail : slice_index_or s.words tail_word 0 ≡ key.first + c.taken
  pub places : (i : ℕ) → c.taken ≤ i → i < length (flat c.history) → PlaceIs c key.room s.words i (key.first + i)
  -- each word is 0 except the head, the tail, the number of ends, and the items and flags of the places
  pub unused : AreZero (IsUsed key.room) s.words

-- there is a lawful queue that is shown
pub record ShowsQueue (key : Shape) (s : State Unit View) : Type 0 where
  pub now : AbsState Positions
  pub queue : Queue
  pub lawful : IsLawfulQueue queue
  pub shown : IsShown key s queue
  pub same : queue ≡ queue_of now.object shown.runs
  pub first : now.object.first ≡ key.first
  pub history : IsHistory now.object shown.runs
  -- each end has seen the queue no later than now
  pub seen : (j : ℕ) (v : View) → get_elem? s.views j ≡ some v → Grows v.seen.object now.object
  -- if the queue is shut, one end has shut it, once; if the queue is open, no end has
  pub shut_once : total shuts_of s.views ≡ (if queue.shut then 1 else 0)
  -- the ends word is the number of ends that exist
  pub number : slice_index_or s.words ends_word 0 ≡ now.ends
  -- a place not written yet has the flag and the item of the position one lap earlier, and zeros in the first lap
  pub rests : PlacesRest now.object (flag_in s.words) (data_in s.words)

-- A lawful queue is shown. The ends' steps lead to it from the empty queue, and each end has seen all steps up to its
-- own last step. The number of ends is the number of ends that exist
pub record ShowsEnds (key : Shape) (s : State Unit View) : Type 0 where
  pub shows : ShowsQueue key s
  pub true_ends : AreValidViews of_queues nothing_did (empty key) shows.now s.views
