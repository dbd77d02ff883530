-- The picture of a boot.
use Rattle.std.specs.Prelude.{◌≡◌, ℕ, Bool, ◌≤◌, ◌+◌, ◌*◌, List, ◌++◌, length}
use Rattle.std.specs.List.{All, AllZip}
use Rattle.svg.specs.declared.shapes.Shape.{Shape}
use Rattle.svg.specs.declared.shapes.Picture.{Picture}
use Rattle.boot_log.specs.Kept.{Kept}
use Rattle.boot_picture.specs.declared.columns.Placed.{Placed}
use Rattle.boot_picture.specs.declared.order.Track.{Track}
use Rattle.boot_picture.specs.Clear.{IsClear, IsGround}
use Rattle.boot_picture.specs.Orders.{IsTrackOf, IsOrderOf}
use Rattle.boot_picture.specs.Lanes.{IsBoxOf}
use Rattle.boot_picture.specs.Places.{AreAtPlaces, IsInside, blocks_of}

-- where the lanes of so many processors end, if the first one is at `top`
abbrev pub lanes_end : ℕ → ℕ → ℕ
lanes_end top processors = top + processors * 60

-- The picture shows the turns of these logs, by the time or not. Each turn is in one block of its processor's track:
-- alone, or with other idle turns in a row. The first blocks of each track have places in the picture, and all do unless
-- there are 2,000 in all. Each has a box at its place, in its processor's lane, whose title names the block. Besides the
-- boxes the picture has only the parts below them, none of which is a box, and those upon them, none of which fills
-- anything in the lanes
pub record ShowsTurns (logs : List Kept) (by_time : Bool) (picture : Picture) : Type 0 where
  pub tracks : List Track
  pub tracks_of : AllZip IsTrackOf logs tracks
  pub all : List Placed
  pub order_of : IsOrderOf tracks (blocks_of all)
  pub places : AreAtPlaces by_time tracks all
  pub inside : All (IsInside picture.width) all
  pub below : List Shape
  pub boxes : List Shape
  pub above : List Shape
  pub top : ℕ
  pub boxes_of : AllZip (IsBoxOf tracks top) all boxes
  pub ground : All (IsGround picture.width picture.height) below
  pub lanes_inside : lanes_end top (length logs) ≤ picture.height
  pub lanes_clear : All (IsClear top (lanes_end top (length logs))) above
  pub parts : picture.shapes ≡ (below ++ boxes) ++ above
