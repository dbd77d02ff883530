-- The call in whose run an item of a queue is.
use Rattle.std.specs.Prelude.{ℕ, ◌<◌, ◌≤◌, List, Option, Some, None, option_map}
use Rattle.std.specs.List.{slice_get}
use Rattle.std.specs.List.Sorted.{IsPartitionPoint}
use Rattle.event_theory.specs.Runs.{Run}
use Rattle.event_theory.specs.Queues.{Queue, left_pairs}
use Rattle.quaject_core.specs.declared.queueing.Span.{Span}

abbrev pub call_of : Run → ℕ
call_of run = run.call

-- the call that claimed the run with the first number of the pair; none if there is no such run
abbrev pub owner : Queue → Option (ℕ × ℕ) → Option ℕ
owner q None = None
owner q (Some pair) = option_map call_of (slice_get q.history pair.0)

-- the call that claimed the run of the first item that is left
abbrev pub first_call : Queue → Option ℕ
first_call q = owner q (slice_get (left_pairs q) 0)

-- the run starts no later than this position
abbrev pub StartsBy : ℕ → Span → Type 0
StartsBy position span = span.start ≤ position

-- the run starts after this position
abbrev pub StartsPast : ℕ → Span → Type 0
StartsPast position span = position < span.start

-- the first `count` runs start no later than this position, and the others start after it
abbrev pub AreBegun : ℕ → List Span → ℕ → Type 0
AreBegun position spans count = IsPartitionPoint (StartsBy position) (StartsPast position) spans count
