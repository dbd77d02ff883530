-- The words of a place before it is written: they have what was left there one round before. So each word has a known
-- number.
use Rattle.std.specs.Prelude.{◌≡◌, ℕ, ◌+◌, ◌-◌, ◌<◌, ◌≤◌}
use Rattle.table_theory.specs.declared.queues.Positions.{Positions}
use Rattle.table_theory.specs.Positioned.{item_at, stage_at}
use Rattle.table_theory.specs.Windows.{spot}

-- The place of the position i after the first. In the first round its words are 0 until they are written. Later they
-- have, until they are written, the flag and the item of the position one round before
pub record PlaceRests (q : Positions) (flag datum : ℕ → ℕ) (i : ℕ) : Type 0 where
  pub first_flag : i < q.room → stage_at q i < 2 → flag (spot q i) ≡ 0
  pub first_item : i < q.room → stage_at q i ≡ 0 → datum (spot q i) ≡ 0
  pub later_flag : q.room ≤ i → stage_at q i < 2 → flag (spot q i) ≡ q.first + (i - q.room) + 1
  pub later_item : q.room ≤ i → stage_at q i ≡ 0 → datum (spot q i) ≡ item_at q (i - q.room)

-- each place of the room, from the tail on, rests as `PlaceRests` states
abbrev pub PlacesRest : Positions → (ℕ → ℕ) → (ℕ → ℕ) → Type 0
PlacesRest q flag datum = (i : ℕ) → q.taken ≤ i → i < q.taken + q.room → PlaceRests q flag datum i
