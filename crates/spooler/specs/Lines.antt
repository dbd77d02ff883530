-- Lines, as lists of items.
use Rattle.std.specs.Prelude.{ℕ, List, map}
use Rattle.std.specs.Cmp.Lexicographic.{slice_cmp}
use Rattle.std.specs.List.Sorted.{IsSortedByKey}
use Rattle.std.specs.Ordering.{nat_cmp}
use Rattle.spooler.specs.declared.line.Line.{Line}

-- the items of each line
abbrev pub lines_of : List Line → List (List ℕ)
lines_of lines = map (λ line. line.items.items) lines

-- no line is less than the one before it, by the first items in which they differ
abbrev pub AreSorted : List Line → Type 0
AreSorted lines = IsSortedByKey (λ line. line.items.items) (slice_cmp nat_cmp) lines
