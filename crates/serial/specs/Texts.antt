-- The page that a port's bytes make.
use Rattle.std.specs.Prelude.{ℕ, List, [], ◌∷◌, ◌++◌, ◌==◌, if◌then◌else◌, length, map, nat_lt}
use Rattle.std.specs.List.{fold}
use Rattle.serial.specs.declared.collector.Page.{Page}

-- the lines that were ended, and the line begun
pub record Text : Type 0 where
  pub lines : List (List ℕ)
  pub begun : List ℕ

abbrev pub text : List (List ℕ) → List ℕ → Text
text lines line = record { lines = lines; begun = line }

-- the text before a byte is sent
abbrev pub blank : Text
blank = text [] []

-- the text of a page
abbrev pub text_of : Page → Text
text_of page = text (map (λ line. line.items) page.lines.items) page.begun.items

-- one byte more is in the line begun, unless the line has 64 bytes
abbrev pub with_byte : Text → ℕ → Text
with_byte t byte = if nat_lt (length t.begun) 64 then text t.lines (t.begun ++ byte ∷ []) else t

-- the line begun is ended, if fewer than 16 lines are
abbrev pub with_line : Text → Text
with_line t = if nat_lt (length t.lines) 16 then text (t.lines ++ t.begun ∷ []) [] else t

-- the byte 10 ends a line; any other byte goes into the line begun
abbrev pub react : Text → ℕ → Text
react t byte = if byte == 10 then with_line t else with_byte t byte

-- the text after these bytes were sent, in their order
abbrev pub collected : List ℕ → Text
collected bytes = fold react blank bytes
