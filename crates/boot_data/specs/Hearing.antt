-- Lines of bytes that threads heard, each with its thread and step.
use Rattle.std.specs.Prelude.{◌≡◌, ◌%◌, ℕ, List, [], map, slice_index_or, Option, Some, None}
use Rattle.std.specs.List.{slice_get}
use Rattle.boot_data.specs.declared.heard.HeardPlace.{HeardPlace}

-- a step of a thread: the number of the thread, and the number of the step
abbrev pub Key : Type 0
Key = ℕ × ℕ

-- a heard line: the thread, the number of its step, and the bytes
abbrev pub Line : Type 0
Line = Key × List ℕ

-- the bytes of a line of items: the low 8 bits of each
abbrev pub bytes_of : List ℕ → List ℕ
bytes_of items = map (λ item. item % 256) items

-- the lines that one processor heard, in order, how many lines there is room for, and the most bytes of a line
pub record Heard : Type 0 where
  pub lines : List Line
  pub room : ℕ
  pub longest : ℕ

-- a heard line as a report has it: the name of the thread, the number of its step, and the bytes
pub record NamedLine : Type 0 where
  pub thread : List ℕ
  pub step : ℕ
  pub bytes : List ℕ

-- no lines, and room for none
abbrev pub nothing_heard : Heard
nothing_heard = record { lines = []; room = 0; longest = 0 }

-- the line at a place, among the lines of these processors
abbrev pub line_at : List Heard → HeardPlace → Option Line
line_at processors place = slice_get (slice_index_or processors place.processor nothing_heard).lines place.number

-- there is a line at the place, and it has the thread and the step of the place
pub record IsPlace (processors : List Heard) (place : HeardPlace) : Type 0 where
  pub line : Line
  pub is : line_at processors place ≡ Some line
  pub key : line.0 ≡ (place.thread, place.step)

-- the bytes of a line; none if there is no line
abbrev pub bytes_in : Option Line → List ℕ
bytes_in None = []
bytes_in (Some line) = line.1

-- the line at a place: the thread and the step of the place, and the bytes of the line that lies there
abbrev pub heard_at : List Heard → HeardPlace → Line
heard_at processors place = ((place.thread, place.step), bytes_in (line_at processors place))

-- a line with the name of its thread; a thread without a name has the empty name
abbrev pub named_line : List (List ℕ) → Line → NamedLine
named_line names line = record { thread = slice_index_or names line.0.0 []; step = line.0.1; bytes = line.1 }
