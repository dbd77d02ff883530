-- Claims and takings as list entries and as lines of items, and a bound of runs.
use Rattle.std.specs.Prelude.{ℕ, ◌+◌, ◌≤◌, ◌≡◌, List, map, take, drop, length}
use mathlib.Core.Option.{some}
use lib.ListN.{get_elem?}
use Rattle.table_theory.specs.declared.queues.Batch.{Batch}
use Rattle.table_theory.specs.declared.queues.Positions.{Positions}
use Rattle.table_theory.specs.Positioned.{fresh, item_of, tail_of}

-- a run with these items from this position on, none of them raised
abbrev pub run : ℕ → List ℕ → Batch
run head items = record { start = head; places = map fresh items }

-- the entry of a taking of n places at the tail
abbrev pub taking : Positions → ℕ → Batch
taking q n = record { start = tail_of q; places = take n (drop q.taken q.places) }

-- the items of a run, or of a taking, in order
abbrev pub line_of : Batch → List ℕ
line_of e = map item_of e.places

-- the position is at or past the end of each of these runs
abbrev pub IsPast : List Batch → ℕ → Type 0
IsPast runs position = (m : ℕ) (e : Batch) → get_elem? runs m ≡ some e → e.start + length e.places ≤ position
