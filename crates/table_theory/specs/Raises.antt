-- Several places that are raised in one step, one after the other: places of one run, or places of any runs.
use Rattle.std.specs.Prelude.{◌≡◌, ℕ, zero, suc, ◌+◌, ◌<◌, List, [], ◌∷◌, length, Result, Ok}
use mathlib.Core.Option.{some}
use lib.ListN.{get_elem?}
use Rattle.event_theory.specs.declared.refusal.Refusal.{Refusal}
use Rattle.event_theory.specs.Queues.{Queue, raise}
use Rattle.event_theory.specs.Results.{◌>>=◌}
use Rattle.table_theory.specs.declared.queues.Batch.{Batch}
use Rattle.table_theory.specs.declared.queues.Positions.{Positions}
use Rattle.table_theory.specs.Filing.{Owned}
use Rattle.table_theory.specs.Listing.{with_stage}
use Rattle.table_theory.specs.Positioned.{with_write}

-- n items of the run, from this index on, are raised one after the other
abbrev pub raise_all : ℕ → ℕ → ℕ → ℕ → Queue → Result Queue Refusal
raise_all call run index zero q = Ok q
raise_all call run index (suc n) q = raise call run index q >>= raise_all call run (suc index) n

-- n places, from this one on, are raised
abbrev pub with_raises : Positions → ℕ → ℕ → Positions
with_raises q at zero = q
with_raises q at (suc n) = with_raises (with_write q at 2) (suc at) n

-- n places of the run, from this index on, are raised
abbrev pub raised_run : Batch → ℕ → ℕ → Batch
raised_run run index zero = run
raised_run run index (suc n) = raised_run (with_stage run index 2) (suc index) n

-- a place of a history: the call of its run, the number of the run, and its index there
pub record Spot : Type 0 where
  pub call : ℕ
  pub run : ℕ
  pub index : ℕ

-- the place `spot` has this position
abbrev pub IsAt : List (Owned Batch) → ℕ → Spot → Type 0
IsAt runs position spot = (run : Owned Batch) × (get_elem? runs spot.run ≡ some run) × (run.0 ≡ spot.call)
    × (spot.index < length run.2.places) × (run.2.start + spot.index ≡ position)

-- the spots are the places from one position up to another, in their order
abbrev pub AreAt : List (Owned Batch) → ℕ → List Spot → ℕ → Type 0
AreAt runs from [] to = from ≡ to
AreAt runs from (spot ∷ spots) to = IsAt runs from spot × AreAt runs (from + 1) spots to

-- the items at these spots are raised, one after the other
abbrev pub raise_each : List Spot → Queue → Result Queue Refusal
raise_each [] q = Ok q
raise_each (spot ∷ spots) q = raise spot.call spot.run spot.index q >>= raise_each spots
