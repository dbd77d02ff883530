-- The words of the table, and the queue of notes and the gate that they show.
use Rattle.std.specs.Prelude.{◌≡◌, ℕ, ◌+◌, ◌<◌, ◌≤◌, false, List, length, map, take, slice_index_or}
use Rattle.table_theory.specs.declared.positions.TheConstants.{POSITIONS}
use Rattle.table_theory.specs.declared.queues.Positions.{Positions}
use Rattle.table_theory.specs.Positioned.{head_of, tail_of, item_of, item_at, stage_at}
use Rattle.table_theory.specs.Windows.{PlacesShow}
use Rattle.proc_chain.specs.declared.rule.GatedQueue.{GatedQueue}
use Rattle.proc_chain.specs.declared.layout.TheConstants.{PLACES}
use Rattle.proc_chain.specs.Layout.{head_word, tail_word, place_word, raised_word}
use Rattle.proc_chain.specs.Layout.{width, note_in, mark_in, gate_in, IsUnused}

-- The word of a place while no note is raised there: 0 before the first note, and then the word of the note that was
-- last taken there
pub record PlacesKeep (q : Positions) (words : List ℕ) : Type 0 where
  pub never : (i : ℕ) → q.taken ≤ i → i < PLACES → stage_at q i < 2
      → slice_index_or words (place_word (q.first + i)) 0 ≡ 0
  pub last : (i : ℕ) → i < q.taken → q.taken ≤ i + PLACES → stage_at q (i + PLACES) < 2
      → slice_index_or words (place_word (q.first + i)) 0 ≡ raised_word (q.first + i) (item_at q i)

-- the words show the queue's head and tail, and the places from the tail on; the words between the used words are 0
pub record WordsShow (q : Positions) (words : List ℕ) : Type 0 where
  pub wide : length words ≡ width
  pub room : q.room ≡ PLACES
  pub is_open : q.shut ≡ false
  pub bounded : head_of q < POSITIONS
  pub head : slice_index_or words head_word 0 ≡ head_of q
  pub tail : slice_index_or words tail_word 0 ≡ tail_of q
  pub window : PlacesShow q (mark_in words) (note_in words)
  pub kept : PlacesKeep q words
  pub unused : (word : ℕ) → IsUnused word → slice_index_or words word 0 ≡ 0

-- the words show the queue and the gate
abbrev pub Shows : GatedQueue → List ℕ → Type 0
Shows o words = WordsShow o.queue words × (gate_in words ≡ o.gate)

-- the notes that were taken, in order
abbrev pub notes_of : Positions → List ℕ
notes_of q = map item_of (take q.taken q.places)
