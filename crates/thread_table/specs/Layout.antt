-- The positions of the words of the table, and the marks in them. The law `layout_is` has the number of words of each
-- kind and the weights of the marks. An element queue is called a ring: the ready ring, the free elements' ring, or a
-- wait queue's. A cache line holds eight words. Words that different processors write often are eight words apart. So
-- they are in lines of their own, and each begins a line if the table's memory begins at one.
use Rattle.std.specs.Prelude.{◌≡◌, ℕ, ◌+◌, ◌*◌, ◌%◌, ◌<◌}
use Rattle.thread_table.specs.declared.layout.TheConstants.{PROCESSORS, ELEMENTS, RINGS}
pub use Rattle.event_theory.specs.Marks.{wait_ring}

-- the word with the number of hands
abbrev pub ends_word : ℕ
ends_word = 0

-- the word of a processor
abbrev pub processor_word : ℕ → ℕ
processor_word processor = 8 * processor + 8

-- the state word of an element
abbrev pub state_word : ℕ → ℕ
state_word element = 8 * element + 72

-- the word with an element's steps done, beside its state word
abbrev pub done_word : ℕ → ℕ
done_word element = 8 * element + 73

-- the head word of a ring
abbrev pub head_word : ℕ → ℕ
head_word ring = 80 * ring + 584

-- the tail word of a ring
abbrev pub tail_word : ℕ → ℕ
tail_word ring = 80 * ring + 592

-- the first place word of a ring
abbrev pub places_word : ℕ → ℕ
places_word ring = 80 * ring + 600

-- the place word of a position of a ring
abbrev pub place_word : ℕ → ℕ → ℕ
place_word ring position = places_word ring + position % 64

-- the ready ring's number
abbrev pub ready_ring : ℕ
ready_ring = 0

-- the number of the free elements' ring
abbrev pub free_ring : ℕ
free_ring = 1

-- the word with this number has a use, which is one of these; each other word stays 0
pub data IsUsed (word : ℕ) : Type 0 where
  by_ends : word ≡ ends_word → IsUsed word
  by_processor : (processor : ℕ) → processor < PROCESSORS → word ≡ processor_word processor → IsUsed word
  by_state : (element : ℕ) → element < ELEMENTS → word ≡ state_word element → IsUsed word
  by_done : (element : ℕ) → element < ELEMENTS → word ≡ done_word element → IsUsed word
  by_head : (ring : ℕ) → ring < RINGS → word ≡ head_word ring → IsUsed word
  by_tail : (ring : ℕ) → ring < RINGS → word ≡ tail_word ring → IsUsed word
  by_place : (ring position : ℕ) → ring < RINGS → word ≡ place_word ring position → IsUsed word

-- the stop bit's number in a state word
abbrev pub stop_bit : ℕ
stop_bit = 16

-- the number of the stop cell's bit in a state word
abbrev pub cell_bit : ℕ
cell_bit = 17

-- the bound of a half word: a half word holds less than this
abbrev pub half_word : ℕ
half_word = 4294967296

-- the head of a ring that has no position left
abbrev pub last_head : ℕ
last_head = 4294967295

-- the greatest first position of a table, which leaves room for the places of the free elements
abbrev pub last_first : ℕ
last_first = 4294967231

-- the most steps that an element can have done
abbrev pub most_done : ℕ
most_done = 4294967295
