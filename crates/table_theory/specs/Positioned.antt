-- A queue by its positions, its lawful states, and its events.
use Rattle.std.specs.Prelude.{◌≡◌, ℕ, ◌+◌, ◌<◌, ◌≤◌, true, List, ◌++◌, map, drop, length, slice_index_or}
use Rattle.std.specs.Prelude.{slice_set, if◌then◌else◌, nat_lt, Option, Some, None}
use Rattle.table_theory.specs.declared.queues.Cell.{Cell}
use Rattle.table_theory.specs.declared.queues.Positions.{Positions}

-- a place with nothing in it
abbrev pub blank : Cell
blank = record { item = 0; stage = 0 }

-- the place i positions after the first one
abbrev pub place_at : Positions → ℕ → Cell
place_at q i = slice_index_or q.places i blank

-- the item of this place, and how many steps of writing are done there
abbrev pub item_at : Positions → ℕ → ℕ
item_at q i = (place_at q i).item

abbrev pub stage_at : Positions → ℕ → ℕ
stage_at q i = (place_at q i).stage

-- the position after the last place that was claimed, and the first position that is left
abbrev pub head_of : Positions → ℕ
head_of q = q.first + length q.places

abbrev pub tail_of : Positions → ℕ
tail_of q = q.first + q.taken

-- no more was taken than claimed, what was taken was raised, and what is left is within the room
pub record Lawful (q : Positions) : Type 0 where
  pub taken_within : q.taken ≤ length q.places
  pub within : length q.places ≤ q.taken + q.room
  pub ready : (i : ℕ) → i < q.taken → 2 ≤ stage_at q i

-- r can follow q: nothing that was claimed, written or taken is lost, and a shut queue stays shut, with no claim more
pub record Grows (q r : Positions) : Type 0 where
  pub first : r.first ≡ q.first
  pub room : r.room ≡ q.room
  pub longer : length q.places ≤ length r.places
  pub further : q.taken ≤ r.taken
  pub items : (i : ℕ) → i < length q.places → item_at r i ≡ item_at q i
  pub more : (i : ℕ) → stage_at q i ≤ stage_at r i
  pub shut : q.shut ≡ true → r.shut ≡ true
  pub still : q.shut ≡ true → length r.places ≡ length q.places

-- a place with this item, as a claim makes it
abbrev pub fresh : ℕ → Cell
fresh x = record { item = x; stage = 0 }

-- the queue after a claim of places for these items
abbrev pub with_claim : Positions → List ℕ → Positions
with_claim q xs = record q { places = q.places ++ map fresh xs }

-- the queue with n steps of writing done at the place i
abbrev pub with_write : Positions → ℕ → ℕ → Positions
with_write q i n = record q { places = slice_set q.places i (record { item = item_at q i; stage = n }) }

-- the queue with n more places taken
abbrev pub with_take : Positions → ℕ → Positions
with_take q n = record q { taken = q.taken + n }

-- the queue after a shut
abbrev pub with_shut : Positions → Positions
with_shut q = record q { shut = true }

abbrev pub item_of : Cell → ℕ
item_of p = p.item

-- the item of a place that is left, if the item was raised
abbrev pub shown : Cell → Option ℕ
shown p = if nat_lt p.stage 2 then None else Some p.item

-- the items that are left, in order
abbrev pub left_of : Positions → List ℕ
left_of q = map item_of (drop q.taken q.places)
