-- The boxes of blocks.
use Rattle.std.specs.Prelude.{◌≡◌, ℕ, ◌+◌, ◌-◌, ◌*◌, List, ◌++◌, codes}
use Rattle.std.specs.List.{AllZip}
use Rattle.std.specs.Fmt.{decimal}
use Rattle.svg.specs.declared.shapes.Colour.{Colour}
use Rattle.svg.specs.declared.shapes.Shape.{Shape}
use Rattle.svg.specs.declared.shapes.Shape.TheVariants.{Titled}
use Rattle.boot_picture.specs.declared.columns.Placed.{Placed}
use Rattle.boot_picture.specs.declared.order.Ordered.{Ordered}
use Rattle.boot_picture.specs.declared.order.Track.{Track}
use Rattle.boot_picture.specs.Orders.{time_of}

-- the words for a block: the number of its first turn, its processor, and when this turn ended
abbrev pub turn_words : ℕ → Ordered → List ℕ
turn_words at o =
    (codes "turn " ++ decimal o.block.first) ++ (codes " on p" ++ decimal o.processor)
    ++ (codes ", at " ++ decimal at) ++ codes " ns: "

-- the title begins with these words
abbrev pub IsTitleOf : ℕ → Ordered → List ℕ → Type 0
IsTitleOf at o title = (details : List ℕ) × (title ≡ turn_words at o ++ details)

-- the shape is a box from side to side of the block, in the lane of its processor, and its title names the block, with
-- its time; the first lane is at `top`
pub record IsBoxOf (tracks : List Track) (top : ℕ) (placed : Placed) (shape : Shape) : Type 0 where
  pub fill : Colour
  pub title : List ℕ
  pub drawn : shape ≡ Titled placed.bounds.left (top + placed.ordered.processor * 60)
      (placed.bounds.right - placed.bounds.left) 48 fill title
  pub titled : IsTitleOf (time_of tracks placed.ordered) placed.ordered title

-- the shapes are drawn upon all others: for each block, in their order, its box
abbrev pub AreBoxesDrawn : List Track → ℕ → List Placed → List Shape → List Shape → Type 0
AreBoxesDrawn tracks top all old new =
    (boxes : List Shape) × (new ≡ old ++ boxes) × AllZip (IsBoxOf tracks top) all boxes
