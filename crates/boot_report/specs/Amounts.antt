-- The numbers of closed objects, each by its place, and 0 if there is none at the place.
use Rattle.std.specs.Prelude.{ℕ, List, length, Option, Some, None}
use Rattle.std.specs.List.{slice_get}
use Rattle.boot_data.specs.declared.report.ItemCounts.{ItemCounts}
use Rattle.claim_queue.specs.declared.close.Closed.{Closed}
use Rattle.quajects.specs.declared.came.Came.{Came}
use Rattle.boot_report.specs.declared.amounts.Numbers.{Numbers}

-- the numbers of a closed queue, or 0
abbrev pub item_counts : {n : ℕ} → Option (Closed n) → ItemCounts
item_counts None = record { put = 0; taken = 0; left = 0 }
item_counts (Some closed) = record { put = closed.put; taken = closed.taken; left = length closed.left.items }

-- the numbers of the queue with this number
abbrev pub counts_at : {n : ℕ} → List (Closed n) → ℕ → ItemCounts
counts_at closed number = item_counts (slice_get closed number)

-- the numbers of a quaject, or 0
abbrev pub numbers_of : Option Came → Numbers
numbers_of None = record { notes = 0; taken = 0; put = 0; held = 0 }
numbers_of (Some came) = record { notes = came.notes; taken = came.taken; put = came.put; held = came.held }

-- the numbers of the quaject in the chain with this number
abbrev pub numbers_at : List Came → ℕ → Numbers
numbers_at counts chain = numbers_of (slice_get counts chain)
