-- The bytes that notes encode.
use Rattle.std.specs.Prelude.{ℕ, ◌+◌, ◌%◌, Bool, List, map, filter, not, nat_lt}

-- the note is of the first port: the second port's notes are 256 and more
abbrev pub is_first : ℕ → Bool
is_first note = nat_lt note 256

abbrev pub byte_of : ℕ → ℕ
byte_of note = note % 256

-- the bytes that the first port has sent
abbrev pub first_bytes : List ℕ → List ℕ
first_bytes notes = map byte_of (filter is_first notes)

-- the bytes that the second port has sent
abbrev pub second_bytes : List ℕ → List ℕ
second_bytes notes = map byte_of (filter (λ note. not (is_first note)) notes)

-- the notes for these bytes, of the port whose notes begin at `port`
abbrev pub notes_for : ℕ → List ℕ → List ℕ
notes_for port bytes = map (λ byte. port + byte) bytes
