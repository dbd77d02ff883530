-- The words of the places, and the queue that they show. A table states how it reads the flag and the item of a place.
use Rattle.std.specs.Prelude.{◌≡◌, ℕ, ◌+◌, ◌%◌, ◌<◌, ◌≤◌}
use Rattle.table_theory.specs.declared.queues.Positions.{Positions}
use Rattle.table_theory.specs.Positioned.{item_at, stage_at}

-- the place of the position i after the first
abbrev pub spot : Positions → ℕ → ℕ
spot q i = (q.first + i) % q.room

-- the flag is one more than the position if the place is raised, and smaller before; a datum once stored is the item
pub record PlaceShows (q : Positions) (flag datum : ℕ → ℕ) (i : ℕ) : Type 0 where
  pub low : stage_at q i < 2 → flag (spot q i) ≤ q.first + i
  pub up : 2 ≤ stage_at q i → flag (spot q i) ≡ q.first + i + 1
  pub holds : 1 ≤ stage_at q i → datum (spot q i) ≡ item_at q i

pub record PlacesShow (q : Positions) (flag datum : ℕ → ℕ) : Type 0 where
  pub some_room : 0 < q.room
  pub each : (i : ℕ) → q.taken ≤ i → i < q.taken + q.room → PlaceShows q flag datum i
