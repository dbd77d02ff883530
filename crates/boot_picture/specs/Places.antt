-- The places of blocks: in turns, or by the time.
use Rattle.std.specs.Prelude.{◌≡◌, ◌==◌, ◌≤◌, ◌+◌, ◌-◌, ◌*◌, ◌/◌, ◌^◌, min, max, ℕ}
use Rattle.std.specs.Prelude.{Bool, true, false, if◌then◌else◌, List, length, map}
use Rattle.std.specs.List.{All, AllPairs, fold, slice_get}
use Rattle.boot_picture.specs.declared.columns.Placed.{Placed}
use Rattle.boot_picture.specs.declared.columns.Scale.{Scale}
use Rattle.boot_picture.specs.declared.order.Ordered.{Ordered}
use Rattle.boot_picture.specs.declared.order.Track.{Track}
use Rattle.boot_picture.specs.Orders.{ended, last_time_of, time_of}

-- the blocks, without their places
abbrev pub blocks_of : List Placed → List Ordered
blocks_of all = map (λ placed. placed.ordered) all

-- the sides of the block are 2 apart at least
abbrev pub IsWide : Placed → Type 0
IsWide placed = placed.bounds.left + 2 ≤ placed.bounds.right

-- the one block begins 40 or more to the left of the other, and ends before it if both are of one processor
pub record IsBefore (one other : Placed) : Type 0 where
  pub begins : one.bounds.left + 40 ≤ other.bounds.left
  pub ends : one.ordered.processor ≡ other.ordered.processor → one.bounds.right ≤ other.bounds.left

-- when the first of these blocks' first turns ended
abbrev pub first_end : List Track → List Ordered → ℕ
first_end tracks order = fold (λ least o. min least (time_of tracks o)) (2 ^ 64 - 1) order

-- when the last of these blocks' last turns ended
abbrev pub last_end : List Track → List Ordered → ℕ
last_end tracks order = fold (λ most o. max most (last_time_of tracks o)) 0 order

-- the times from the one to the other, on a width of 32 for each block, but 900 at least and 48,000 at most
abbrev pub scale_of : List Track → List Ordered → Scale
scale_of tracks order = record {
  from = first_end tracks order;
  span = last_end tracks order - first_end tracks order;
  width = min (max (length order * 32) 900) 48000;
}

-- the place of a time: 160 if the scale begins then, and farther to the right in proportion, up to 48,160
abbrev pub place : Scale → ℕ → ℕ
place scale at = 160 + min ((at - scale.from) * scale.width / max scale.span 1) 48000

-- where a block begins: at the end of the turn before it, and 64 before the end of its first turn if it is the first one
abbrev pub left_place : List Track → Scale → Ordered → ℕ
left_place tracks scale o = if o.block.first == 0 then place scale (time_of tracks o) - 64
    else place scale (ended (slice_get tracks o.processor) (o.block.first - 1))

-- the block begins there, and ends where its last turn does, but is 2 wide at least
pub record IsAtTime (tracks : List Track) (scale : Scale) (placed : Placed) : Type 0 where
  pub begins : placed.bounds.left ≡ left_place tracks scale placed.ordered
  pub ends : placed.bounds.right ≡ max (place scale (last_time_of tracks placed.ordered)) (placed.bounds.left + 2)

-- by the time, all blocks are at their times, on one scale; otherwise each is before those that follow
abbrev pub AreAtPlaces : Bool → List Track → List Placed → Type 0
AreAtPlaces true tracks all = All (IsAtTime tracks (scale_of tracks (blocks_of all))) all
AreAtPlaces false tracks all = AllPairs IsBefore all

-- these blocks have places, in their order
pub record ArePlaced (by_time : Bool) (tracks : List Track) (order : List Ordered) (all : List Placed) : Type 0 where
  pub blocks : blocks_of all ≡ order
  pub wide : All IsWide all
  pub places : AreAtPlaces by_time tracks all

-- the block is wide enough to be seen, and ends at this side or before it
pub record IsInside (right : ℕ) (placed : Placed) : Type 0 where
  pub wide : IsWide placed
  pub ends : placed.bounds.right ≤ right
