-- The words of a queue's table: the head and the number of ends, then the tail, then two words for each place, its item
-- and beside it its flag. A cache line has 8 words: the tail is 8 words after the head, and the first place 8 words
-- after the tail. So they are in lines of their own, and each line begins at one of them if the table's memory begins
-- at a line.
use Rattle.std.specs.Prelude.{◌≡◌, ℕ, ◌+◌, ◌*◌, ◌%◌, Bool, true, false, List, slice_index_or}

-- the number of the word that has the head, and the shut mark if the queue is shut
abbrev pub head_word : ℕ
head_word = 0

-- the number of the word that has the number of ends
abbrev pub ends_word : ℕ
ends_word = 1

-- the number of the word that has the tail
abbrev pub tail_word : ℕ
tail_word = 8

-- the number of the word of the item at this position
abbrev pub data_word : ℕ → ℕ → ℕ
data_word room position = 2 * (position % room) + 16

-- the number of the word of the flag at this position
abbrev pub flag_word : ℕ → ℕ → ℕ
flag_word room position = 2 * (position % room) + 17

-- the number of words of a queue of `room` places
abbrev pub width : ℕ → ℕ
width room = room + room + 16

-- the word with this number is used: for the head, the number of ends, the tail, an item or a flag
pub data IsUsed (room word : ℕ) : Type 0 where
  by_head : word ≡ head_word → IsUsed room word
  by_ends : word ≡ ends_word → IsUsed room word
  by_tail : word ≡ tail_word → IsUsed room word
  by_item : (position : ℕ) → word ≡ data_word room position → IsUsed room word
  by_flag : (position : ℕ) → word ≡ flag_word room position → IsUsed room word

-- the shut mark, which is added to the head in the head word: 2^32 if the queue is shut, else 0
abbrev pub mark : Bool → ℕ
mark true = 4294967296
mark false = 0

-- the item of this place
abbrev pub data_in : List ℕ → ℕ → ℕ
data_in words place = slice_index_or words (2 * place + 16) 0

-- the flag of this place
abbrev pub flag_in : List ℕ → ℕ → ℕ
flag_in words place = slice_index_or words (2 * place + 17) 0
