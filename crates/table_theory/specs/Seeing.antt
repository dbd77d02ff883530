-- A run in the queue that an end sees.
use Rattle.std.specs.Prelude.{◌≡◌, ℕ, ◌+◌, ◌<◌, ◌≤◌, length, slice_index_or}
use Rattle.table_theory.specs.declared.queues.Batch.{Batch}
use Rattle.table_theory.specs.declared.queues.Positions.{Positions}
use Rattle.table_theory.specs.Positioned.{blank, place_at}

-- the run of an end is in the queue as the end lists it
pub record RunIsIn (q : Positions) (e : Batch) : Type 0 where
  pub at : ℕ
  pub start : e.start ≡ q.first + at
  pub within : at + length e.places ≤ length q.places
  pub same : (i : ℕ) → i < length e.places → place_at q (at + i) ≡ slice_index_or e.places i blank
