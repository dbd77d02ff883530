-- The state between any two steps: a lawful chain of the core that the words and the views show, and its quaject.
use Rattle.std.specs.Prelude.{◌≡◌, ◌≢◌, ℕ, ◌+◌, ◌%◌, ◌<◌, ◌≤◌, true, false, List, [], ◌∷◌, map, length, take}
use Rattle.std.specs.Prelude.{slice_index_or}
use Rattle.std.specs.List.{slice_get}
use mathlib.Core.Option.{some, none}
use lib.ListN.{get_elem?}
use Rattle.atomic_table.specs.Table.{State}
use Rattle.event_theory.specs.declared.status.Gate.TheVariants.{Idle}
use Rattle.table_theory.specs.declared.positions.TheConstants.{POSITIONS}
use Rattle.table_theory.specs.declared.queues.Batch.{Batch}
use Rattle.event_theory.specs.Runs.{flat, pairs}
use Rattle.event_theory.specs.Queues.{is_raised}
use Rattle.event_theory.specs.Chains.{Chain, is_call}
use Rattle.event_theory.specs.Lawful.{IsLawfulChain}
use Rattle.table_theory.specs.Positioned.{item_of, Grows}
use Rattle.table_theory.specs.Filing.{Owned, ListedOnce}
use Rattle.table_theory.specs.Listing.{all_places, Adjacent}
use Rattle.table_theory.specs.QueueOf.{run_in, published_in, IsHistory}
use Rattle.table_theory.specs.Ledgers.{AreValidViews}
use Rattle.proc_chain.specs.declared.rule.GatedQueue.{GatedQueue}
use Rattle.proc_chain.specs.declared.rule.Shape.{Shape}
use Rattle.proc_chain.specs.Own.{View, nothing_did, queue_of}
use Rattle.proc_chain.specs.Happenings.{of_chains}
use Rattle.proc_chain.specs.declared.layout.TheConstants.{PLACES, MORE}
use Rattle.proc_chain.specs.Layout.{head_word, tail_word, ends_word, width, note_in, mark_in, gate_in}
use Rattle.proc_chain.specs.Shown.{Shows}
use Rattle.proc_chain.specs.Changes.{first_queue, IsLawful}
use Rattle.proc_chain.specs.Chainings.{gate_of, chain_of, AreShown}

-- the pair (run, index) of the note with this number
abbrev pub pair_at : Chain → ℕ → ℕ × ℕ
pair_at c i = slice_index_or (pairs c.notes.history) i (0, 0)

-- The note with the number i has the position p. If the note is raised, the mark of the place is p + 1 and its word has
-- the note. Else the mark is at most p
pub record PlaceIs (c : Chain) (words : List ℕ) (i p : ℕ) : Type 0 where
  pub raised : is_raised c.notes (pair_at c i) ≡ true → mark_in words (p % PLACES) ≡ p + 1
  pub note : is_raised c.notes (pair_at c i) ≡ true
      → note_in words (p % PLACES) ≡ slice_index_or (flat c.notes.history) i 0
  pub claimed : is_raised c.notes (pair_at c i) ≡ false → mark_in words (p % PLACES) ≤ p

-- the words and the views show the chain
pub record IsShown {W : Type 0} (key : Shape W) (words : List ℕ) (views : List View) (c : Chain) : Type 0 where
  pub runs : List (Owned Batch)
  pub history : c.notes.history ≡ map run_in runs
  -- each run of a view is in the history, and each run of the history is in one view, once
  pub once : ListedOnce runs (map (λ view. view.own.runs) views)
  -- the first run begins at the first position, and each other run begins where the previous run ends
  pub side_by_side : Adjacent key.first runs
  pub raised : (run index : ℕ) → c.notes.raised run index ≡ published_in (slice_get runs run) index
  pub takings : List (Owned Batch)
  -- each taking is in one view, once; the takings have each position below the tail once, with the note of its run
  pub taken_once : ListedOnce takings (map (λ view. view.own.takes) views)
  pub taken_in_order : Adjacent key.first takings
  pub taken_notes : map item_of (all_places takings) ≡ take c.notes.taken (flat c.notes.history)
  pub capacity : c.notes.capacity ≡ PLACES
  pub is_open : c.notes.shut ≡ false
  pub long : length words ≡ width
  pub bounded : key.first + length (flat c.notes.history) < POSITIONS
  pub head : slice_index_or words head_word 0 ≡ key.first + length (flat c.notes.history)
  pub tail : slice_index_or words tail_word 0 ≡ key.first + c.notes.taken
  pub places : (i : ℕ) → c.notes.taken ≤ i → i < length (flat c.notes.history) → PlaceIs c words i (key.first + i)
  pub gate : c.gate ≡ gate_of (gate_in words)
  pub gate_word : gate_in words ≤ MORE
  -- an end is the runner exactly if its view says so, and owes a notify exactly if its view says so
  pub runner : (call : ℕ) (v : View) → get_elem? views call ≡ some v → v.own.runner ≡ is_call call c.runner
  pub owing : (call : ℕ) (v : View) → get_elem? views call ≡ some v → v.own.owes ≡ c.owing call

-- A lawful chain is shown. If its gate is Idle, the quaject is in the slot, was made by the notes taken, in order, and
-- suits the chain. Else the slot is held by an end
pub record ShowsChain {Q W : Type 0} (made : W → Q → List ℕ → Type 0) (fits : W → Q → Type 0) (key : Shape W)
    (s : State Q View) : Type 0 where
  pub now : GatedQueue
  pub chain : Chain
  pub lawful : IsLawfulChain chain
  pub shown : IsShown key s.words s.views chain
  -- the chain is the chain of the present queue, gate and views
  pub same : chain ≡ chain_of now.queue shown.runs now.gate s.views
  pub first : now.queue.first ≡ key.first
  pub history : IsHistory now.queue shown.runs
  pub gate : now.gate ≡ gate_in s.words
  -- each end has seen the queue no later than now
  pub seen : (j : ℕ) (v : View) → get_elem? s.views j ≡ some v → Grows (queue_of v) now.queue
  pub home : chain.gate ≡ Idle → (x : Q) × (s.homes ≡ some x ∷ [])
      × made key.pact x (take chain.notes.taken (flat chain.notes.history)) × fits key.pact x
  pub held : chain.gate ≢ Idle → s.homes ≡ none ∷ []

-- The words show this queue and gate, which are lawful, and have the number of ends that exist. The ends' steps, all
-- real, lead to them from the empty queue with its gate Idle. Each end has seen all steps up to its own last step
pub record ShowsEnds {Q W : Type 0} (key : Shape W) (s : State Q View) (now : GatedQueue) : Type 0 where
  pub words : Shows now s.words
  pub lawful : IsLawful now
  pub views : AreShown now s.views
  pub ends : ℕ
  pub number : slice_index_or s.words ends_word 0 ≡ ends
  pub true_ends : AreValidViews of_chains nothing_did (first_queue key.first)
      (record { ends = ends; object = now }) s.views
