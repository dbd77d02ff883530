-- The words of a queue's table: the head and the number of ends, then the tail, then the free position, then a mark for
-- each place. The head, the tail, the free position and the first mark are 16 words apart.
use Rattle.std.specs.Prelude.{◌≡◌, ℕ, ◌+◌, ◌%◌, ◌^◌, Bool, true, false}

-- the number of the word that has the head, and the shut mark if the queue is shut
abbrev pub head_word : ℕ
head_word = 0

-- the number of the word that has the number of ends
abbrev pub ends_word : ℕ
ends_word = 1

-- the number of the word that has the tail
abbrev pub tail_word : ℕ
tail_word = 16

-- the number of the word that has the free position
abbrev pub free_word : ℕ
free_word = 32

-- the number of the word of the mark of this position
abbrev pub mark_word : ℕ → ℕ → ℕ
mark_word room position = position % room + 48

-- the number of words of a queue of `room` places
abbrev pub width : ℕ → ℕ
width room = room + 48

-- this number of places is a power of two
abbrev pub IsPowerOfTwo : ℕ → Type 0
IsPowerOfTwo room = ∥ ((k : ℕ) × (room ≡ 2 ^ k)) ∥₁

-- the word with this number is used: for the head, the number of ends, the tail, the free position or a mark
pub data IsUsed (room word : ℕ) : Type 0 where
  by_head : word ≡ head_word → IsUsed room word
  by_ends : word ≡ ends_word → IsUsed room word
  by_tail : word ≡ tail_word → IsUsed room word
  by_free : word ≡ free_word → IsUsed room word
  by_mark : (position : ℕ) → word ≡ mark_word room position → IsUsed room word

-- the shut mark, which is added to the head in the head word: 2^63 if the queue is shut, else 0
abbrev pub mark : Bool → ℕ
mark true = 9223372036854775808
mark false = 0
