-- Parts that fill nothing in the lanes, and those that are no boxes.
use Rattle.std.specs.Prelude.{◌≡◌, ℕ, ◌≤◌, ◌+◌, ◌-◌, ◌⊎◌, min, max, List}
use Rattle.std.specs.List.{All}
use Rattle.svg.specs.declared.shapes.Colour.TheVariants.{White}
use Rattle.svg.specs.declared.shapes.Shape.{Shape}
use Rattle.svg.specs.declared.shapes.Shape.TheVariants.{Cell, Bar, Down, Up, Line, Titled, Words}

-- the heights from `upper` to `lower` are above the lanes or below them; the lanes lie between `top` and `bottom`
abbrev pub IsOutside : ℕ → ℕ → ℕ → ℕ → Type 0
IsOutside top bottom upper lower = (lower ≤ top) ⊎ (bottom ≤ upper)

-- the part fills nothing in the lanes: it is a text, or lies outside of them
abbrev pub IsClear : ℕ → ℕ → Shape → Type 0
IsClear top bottom (Cell x y width height fill) = IsOutside top bottom y (y + height)
IsClear top bottom (Bar x y width height fill) = IsOutside top bottom y (y + height)
IsClear top bottom (Down x y) = IsOutside top bottom y (y + 5)
IsClear top bottom (Up x y) = IsOutside top bottom (y - 5) y
IsClear top bottom (Line x1 y1 x2 y2 ink) = IsOutside top bottom (min y1 y2) (max y1 y2)
IsClear top bottom (Titled x y width height fill title) = IsOutside top bottom y (y + height)
IsClear top bottom (Words x y anchor ink text) = Unit {0}

-- texts are drawn: lanes that were clear are clear
abbrev pub DrawsTexts : List Shape → List Shape → Type 0
DrawsTexts old new = (top bottom : ℕ) → All (IsClear top bottom) old → All (IsClear top bottom) new

-- texts are drawn, and parts below this height: lanes above it that were clear are clear
abbrev pub DrawsBelow : ℕ → List Shape → List Shape → Type 0
DrawsBelow side old new =
    (top bottom : ℕ) → bottom ≤ side → All (IsClear top bottom) old → All (IsClear top bottom) new

-- texts are drawn, and parts above this height: lanes that begin there, and were clear, are clear
abbrev pub DrawsAbove : ℕ → List Shape → List Shape → Type 0
DrawsAbove side old new = (bottom : ℕ) → All (IsClear side bottom) old → All (IsClear side bottom) new

-- texts are drawn, and parts outside of the lanes: these are clear if they were
abbrev pub DrawsOutside : ℕ → ℕ → List Shape → List Shape → Type 0
DrawsOutside top bottom old new = All (IsClear top bottom) old → All (IsClear top bottom) new

-- the part is no box: a text, a bar that is 1 wide or 1 high, or the white ground of a picture of this size
abbrev pub IsGround : ℕ → ℕ → Shape → Type 0
IsGround width height (Cell x y wide high fill) = ⊥
IsGround width height (Bar x y wide high fill) =
    ((wide ≡ 1) ⊎ (high ≡ 1)) ⊎ (Bar x y wide high fill ≡ Bar 0 0 width height White)
IsGround width height (Down x y) = ⊥
IsGround width height (Up x y) = ⊥
IsGround width height (Line x1 y1 x2 y2 ink) = ⊥
IsGround width height (Titled x y wide high fill title) = ⊥
IsGround width height (Words x y anchor ink text) = Unit {0}

-- no box is drawn: if there was none before, there is none
abbrev pub DrawsGround : ℕ → ℕ → List Shape → List Shape → Type 0
DrawsGround width height old new = All (IsGround width height) old → All (IsGround width height) new
