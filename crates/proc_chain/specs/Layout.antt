-- The words of a chain's table: head and number of ends, then tail, gate and the words of the places, each of them in
-- cache lines of their own; and the meaning of the word of a place.
use Rattle.std.specs.Prelude.{◌≢◌, ℕ, ◌+◌, ◌*◌, ◌/◌, ◌%◌, ◌<◌, List, slice_index_or}
use Rattle.proc_chain.specs.declared.layout.TheConstants.{HEAD, TAIL, ENDS, GATE, FIRST_PLACE, PLACES, WORDS, NOTES}

-- the number of the word that has the head
abbrev pub head_word : ℕ
head_word = HEAD

-- the number of the word that has the tail
abbrev pub tail_word : ℕ
tail_word = TAIL

-- the number of the word that has the number of ends
abbrev pub ends_word : ℕ
ends_word = ENDS

-- the number of the word that has the gate
abbrev pub gate_word : ℕ
gate_word = GATE

-- the number of the word of the place of this position
abbrev pub place_word : ℕ → ℕ
place_word position = position % PLACES + FIRST_PLACE

-- the number of words of a chain
abbrev pub width : ℕ
width = WORDS

-- the word is between the used words, and is not used: these words keep the used words 8 words apart
abbrev pub IsUnused : ℕ → Type 0
IsUnused word = (ends_word < word) × (word < FIRST_PLACE) × (word ≢ tail_word) × (word ≢ gate_word)

-- the word of the place of this position after this note was raised there
abbrev pub raised_word : ℕ → ℕ → ℕ
raised_word position note = (position + 1) * NOTES + note

-- the note in the word of a place
abbrev pub note_of : ℕ → ℕ
note_of word = word % NOTES

-- the mark in the word of a place: if the place is raised, its position plus 1
abbrev pub mark_of : ℕ → ℕ
mark_of word = word / NOTES

-- the note in this place
abbrev pub note_in : List ℕ → ℕ → ℕ
note_in words place = note_of (slice_index_or words (place + FIRST_PLACE) 0)

-- the mark in this place
abbrev pub mark_in : List ℕ → ℕ → ℕ
mark_in words place = mark_of (slice_index_or words (place + FIRST_PLACE) 0)

-- the gate: IDLE, RUNNING or MORE
abbrev pub gate_in : List ℕ → ℕ
gate_in words = slice_index_or words gate_word 0
