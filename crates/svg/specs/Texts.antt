-- Texts made of lines and numbers.
use Rattle.std.specs.Prelude.{ℕ, nat_le, List, ◌++◌, length, take, if◌then◌else◌, codes}

-- the front of a line: all of a line of at most so many bytes, and else so many of its bytes and two full stops
abbrev pub front : List ℕ → ℕ → List ℕ
front line most = if nat_le (length line) most then line else take most line ++ codes ".."
