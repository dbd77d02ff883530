-- The lines that an end of a queue put and took: a line is one claim, or one taking.
use Rattle.std.specs.Prelude.{ℕ, List, map}
pub use Rattle.table_theory.specs.Batches.{line_of}
pub use Rattle.table_theory.specs.Lines.{IsCut, IsSettled}
use Rattle.table_theory.specs.Lines as lines
use Rattle.claim_queue.specs.Own.{View}

-- the lines that the end put, in the order of its claims
abbrev pub lines_put : View → List (List ℕ)
lines_put v = map line_of v.own.runs

-- the lines that the end took, in the order of its takings
abbrev pub lines_taken : View → List (List ℕ)
lines_taken v = map line_of v.own.takes

-- the end put no line and took none, and its share is unchanged
abbrev pub SameLines : View → View → Type 0
SameLines v w = lines.SameLines lines_put lines_taken v w

-- the end put this one line more and took none, and its share is unchanged
abbrev pub PutLine : List ℕ → View → View → Type 0
PutLine line v w = lines.PutLine lines_put lines_taken line v w

-- the end took this one line more and put none, and its share is unchanged
abbrev pub TookLine : List ℕ → View → View → Type 0
TookLine line v w = lines.TookLine lines_put lines_taken line v w
