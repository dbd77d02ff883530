-- The order of all processors' blocks by the clock.
use Rattle.std.specs.Prelude.{◌≡◌, ℕ, ◌+◌, ◌-◌, ◌<◌, ◌≤◌, ◌==◌, ◌⊎◌, List, length, take, map, get_or}
use Rattle.std.specs.Prelude.{Option, Some, None, IfSome}
use Rattle.std.specs.List.{All, filter, slice_get}
use Rattle.boot_picture.specs.declared.blocks.Block.{Block}
use Rattle.std.specs.List.Sorted.{IsNonDecreasingBy}
use Rattle.boot_log.specs.declared.entry.Entry.{Entry}
use Rattle.boot_log.specs.Kept.{Kept}
use Rattle.boot_picture.specs.declared.order.Ordered.{Ordered}
use Rattle.boot_picture.specs.declared.order.Track.{Track}
use Rattle.boot_picture.specs.Blocks.{AreBlocksOf}

-- the track has the log of a processor, and the blocks of its turns
pub record IsTrackOf (log : Kept) (track : Track) : Type 0 where
  pub same : track.log.now ≡ log
  pub blocks : AreBlocksOf log.entries track.blocks.items

-- the blocks of one processor among these, in their order
abbrev pub blocks_in : ℕ → List Ordered → List Block
blocks_in processor order = map (λ o. o.block) (filter (λ o. o.processor == processor) order)

-- all blocks of each processor are among these, in their order
abbrev pub HasAll : List Track → List Ordered → Type 0
HasAll tracks order = (processor : ℕ) (track : Track) → slice_get tracks processor ≡ Some track
    → blocks_in processor order ≡ track.blocks.items

-- the first blocks of each processor are among these, in their order
abbrev pub HasFirst : List Track → List Ordered → Type 0
HasFirst tracks order = (processor : ℕ) (track : Track) → slice_get tracks processor ≡ Some track
    → (n : ℕ) × (blocks_in processor order ≡ take n track.blocks.items)

-- when a turn ended; 0 if there is none
abbrev pub end_of : Option Entry → ℕ
end_of None = 0
end_of (Some entry) = entry.at

-- when a turn of a processor ended, by its number; 0 if there is none
abbrev pub ended : Option Track → ℕ → ℕ
ended None turn = 0
ended (Some track) turn = end_of (slice_get track.log.now.entries turn)

-- when the first turn of a block ended
abbrev pub time_of : List Track → Ordered → ℕ
time_of tracks o = ended (slice_get tracks o.processor) o.block.first

-- when the last turn of a block ended
abbrev pub last_time_of : List Track → Ordered → ℕ
last_time_of tracks o = ended (slice_get tracks o.processor) (o.block.first + o.block.turns - 1)

-- the turns are in the order of the clock
abbrev pub AreInTime : List Entry → Type 0
AreInTime entries = IsNonDecreasingBy (λ entry. entry.at) entries

-- the track has the blocks of its turns, and these are in the order of the clock
pub record IsTimed (track : Track) : Type 0 where
  pub blocks : AreBlocksOf track.log.now.entries track.blocks.items
  pub times : AreInTime track.log.now.entries

-- the block is of its processor's track, and comes there after all that are in the order
pub record IsLeftOut (tracks : List Track) (order : List Ordered) (o : Ordered) : Type 0 where
  pub track : Track
  pub processor_of : slice_get tracks o.processor ≡ Some track
  pub number : ℕ
  pub block_is : slice_get track.blocks.items number ≡ Some o.block
  pub after : length (blocks_in o.processor order) ≤ number

-- no block that is left out comes before this one by the clock
abbrev pub IsBeforeLeftOut : List Track → List Ordered → Ordered → Type 0
IsBeforeLeftOut tracks order o = (left : Ordered) → IsLeftOut tracks order left → time_of tracks o ≤ time_of tracks left

-- Blocks of these processors: the first of each in their order, and all of them unless there are 2,000. If the turns of
-- each processor are in the order of the clock, the blocks are too, and none that is left out comes before one of them
pub record IsOrderOf (tracks : List Track) (order : List Ordered) : Type 0 where
  pub of_tracks : All (λ o. o.processor < length tracks) order
  pub few : length order ≤ 2000
  pub first : HasFirst tracks order
  pub all_or_most : (length order ≡ 2000) ⊎ HasAll tracks order
  pub by_clock : All IsTimed tracks → IsNonDecreasingBy (time_of tracks) order
  pub earliest : All IsTimed tracks → All (IsBeforeLeftOut tracks order) order

-- the block is the next one of its processor; `nexts` has the number of each processor's next block
pub record IsNextIn (tracks : List Track) (nexts : List ℕ) (o : Ordered) : Type 0 where
  pub track : Track
  pub processor_of : slice_get tracks o.processor ≡ Some track
  pub next : slice_get track.blocks.items (get_or nexts o.processor 0) ≡ Some o.block

-- the processor has no next block
abbrev pub IsUsed : List Track → List ℕ → ℕ → Type 0
IsUsed tracks nexts processor = (track : Track) → slice_get tracks processor ≡ Some track
    → length track.blocks.items ≤ get_or nexts processor 0

-- no processor below this one has a next block
abbrev pub AreUsed : List Track → List ℕ → ℕ → Type 0
AreUsed tracks nexts end = (processor : ℕ) → processor < end → IsUsed tracks nexts processor

-- the block doesn't come after this one, if there is one
abbrev pub IsNotAfter : List Track → Ordered → Option Ordered → Type 0
IsNotAfter tracks o other = IfSome other (λ next. time_of tracks o ≤ time_of tracks next)

-- the block doesn't come after the next one of any processor below this one
abbrev pub IsLeast : List Track → List ℕ → ℕ → Ordered → Type 0
IsLeast tracks nexts end o = (next : Ordered) → IsNextIn tracks nexts next → next.processor < end
    → time_of tracks o ≤ time_of tracks next
