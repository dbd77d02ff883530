-- The runs of an end are in order, and so are its takings.
use Rattle.std.specs.Prelude.{◌≡◌, ◌+◌, ◌≤◌, ℕ, length}
use mathlib.Core.Option.{some}
use lib.ListN.{get_elem?}
use Rattle.table_theory.specs.declared.queues.Batch.{Batch}
use Rattle.table_theory.specs.Interleaving.{InOrder}
use Rattle.table_theory.specs.Positioned.{tail_of}
use Rattle.claim_queue.specs.Own.{View}

-- each run of the end starts at a later position than the run before it, and has a place
abbrev pub ClaimsInOrder : View → Type 0
ClaimsInOrder v = InOrder v.own.runs

-- Each taking of the end starts at a later position than the one before it, and has a place. Each ends at or before the
-- tail that the end saw last
abbrev pub TakesInOrder : View → Type 0
TakesInOrder v = InOrder v.own.takes
    × ((m : ℕ) (e : Batch) → get_elem? v.own.takes m ≡ some e → e.start + length e.places ≤ tail_of v.seen.object)
