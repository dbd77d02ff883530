-- The words of the table: the number of hands, processors, states, steps done, and the element queues.
use Rattle.std.specs.Prelude.{◌≡◌, ℕ, zero, suc, ◌+◌, ◌-◌, ◌*◌, ◌<◌, ◌≤◌, true, false, if◌then◌else◌, Bool, List}
use Rattle.std.specs.Prelude.{length}
use Rattle.std.specs.Prelude.{slice_index_or, Option, Some, None}
use Rattle.std.specs.List.{slice_get}
use Rattle.std.specs.Int.{bit_at}
use Rattle.event_theory.specs.Elements.{Elements, Thread}
use Rattle.event_theory.specs.Queues.{Queue}
use Rattle.event_theory.specs.Runs.{Run}
use Rattle.event_theory.specs.declared.hold.Hold.{Hold}
use Rattle.table_theory.specs.Unused.{AreZero}
use Rattle.table_theory.specs.declared.positions.TheConstants.{POSITIONS}
use Rattle.thread_table.specs.declared.layout.TheConstants.{WORDS, PROCESSORS, ELEMENTS, RINGS, PLACES, WAITS, NOTIFY}
use Rattle.thread_table.specs.declared.layout.TheConstants.{CELL}
use Rattle.thread_table.specs.Layout.{processor_word, state_word, done_word, head_word, tail_word, place_word, stop_bit}
use Rattle.thread_table.specs.Layout.{cell_bit, half_word, IsUsed}
use Rattle.thread_table.specs.Schedules.{ring_at, thread_at, element_at}

abbrev pub bit_of : Bool → ℕ
bit_of b = if b then 1 else 0

abbrev pub processor_shown : Option Hold → ℕ
processor_shown None = 0
processor_shown (Some h) = h.element + 1

-- bits 0 to 15 are the pending signals, bit 16 the stop bit, bit 17 the stop cell
pub record StateShows (thread : Thread) (word : ℕ) : Type 0 where
  pub bounded : word < 2 * CELL
  pub pending : (signal : ℕ) → signal < 16 → bit_at word signal ≡ bit_of (thread.pending signal)
  pub stop : bit_at word stop_bit ≡ bit_of thread.stop
  pub parked : bit_at word cell_bit ≡ bit_of thread.parked

-- The place of a raised run has its element and its position plus one. Before the raise, the place has 0, or the word
-- that was put there for the run 64 before. So its mark is at most the run's position, and the whole word is
-- determined.
pub record PlaceShows (first : ℕ) (q : Queue) (run word : ℕ) : Type 0 where
  pub up : q.raised run 0 ≡ true → word ≡ element_at q run + 256 * (first + run + 1)
  pub low : q.raised run 0 ≡ false → word < 256 * (first + run + 1)
  pub early : q.raised run 0 ≡ false → run < PLACES → word ≡ 0
  pub late : q.raised run 0 ≡ false → PLACES ≤ run
      → word ≡ element_at q (run - PLACES) + 256 * (first + (run - PLACES) + 1)

-- how many notifies are marked in the head word of an element queue; 0 for the ready ring and the free elements
abbrev pub mark_of : Elements → ℕ → ℕ
mark_of e zero = 0
mark_of e (suc zero) = 0
mark_of e (suc (suc wait)) = slice_index_or e.notified wait 0

abbrev pub head_shown : ℕ → Elements → ℕ → ℕ
head_shown first e ring = first + length (ring_at e ring).history + mark_of e ring * NOTIFY

abbrev pub tail_shown : ℕ → Elements → ℕ → ℕ
tail_shown first e ring = first + (ring_at e ring).taken

-- the words show an element queue each of whose runs is one element
pub record RingShows (first : ℕ) (e : Elements) (ring : ℕ) (words : List ℕ) : Type 0 where
  pub capacity : (ring_at e ring).capacity ≡ PLACES
  pub is_open : (ring_at e ring).shut ≡ false
  pub single : (number : ℕ) (run : Run) → slice_get (ring_at e ring).history number ≡ Some run → length run.items ≡ 1
  pub bounded : first + length (ring_at e ring).history < POSITIONS
  pub marked : mark_of e ring < half_word
  pub head : slice_index_or words (head_word ring) 0 ≡ head_shown first e ring
  pub tail : slice_index_or words (tail_word ring) 0 ≡ tail_shown first e ring
  pub places : (run : ℕ) → (ring_at e ring).taken ≤ run → run < (ring_at e ring).taken + PLACES
      → PlaceShows first (ring_at e ring) run (slice_index_or words (place_word ring (first + run)) 0)

pub record WordsShow (first : ℕ) (e : Elements) (words : List ℕ) : Type 0 where
  pub wide : length words ≡ WORDS
  pub threads : length e.threads ≡ ELEMENTS
  pub queues : length e.rings ≡ RINGS
  pub waits : length e.notified ≡ WAITS
  pub processors : length e.processors ≡ PROCESSORS
  pub on : (p : ℕ) → p < PROCESSORS
      → slice_index_or words (processor_word p) 0 ≡ processor_shown (slice_index_or e.processors p None)
  pub states : (x : ℕ) → x < ELEMENTS → StateShows (thread_at e x) (slice_index_or words (state_word x) 0)
  pub steps : (x : ℕ) → x < ELEMENTS → slice_index_or words (done_word x) 0 ≡ (thread_at e x).done
  pub few : (x : ℕ) → x < ELEMENTS → (thread_at e x).done < half_word
  pub rings : (ring : ℕ) → ring < RINGS → RingShows first e ring words
  -- a word that has no use is 0
  pub unused : AreZero IsUsed words
