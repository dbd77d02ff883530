-- The words of colours and anchors.
use Rattle.std.specs.Prelude.{ℕ, List, codes}
use Rattle.svg.specs.declared.shapes.Colour.{Colour}
use Rattle.svg.specs.declared.shapes.Colour.TheVariants.{Ink, Dim, Faint, White, Grey, Orange, Sky, Green, Yellow}
use Rattle.svg.specs.declared.shapes.Colour.TheVariants.{Pink, Red, Blue, Vermilion}
use Rattle.svg.specs.declared.shapes.Anchor.{Anchor}
use Rattle.svg.specs.declared.shapes.Anchor.TheVariants.{Start, Middle}

-- a colour as red, green and blue
abbrev pub colour_code : Colour → List ℕ
colour_code Ink = codes "#222222"
colour_code Dim = codes "#767676"
colour_code Faint = codes "#e4e4e4"
colour_code White = codes "#ffffff"
colour_code Grey = codes "#cccccc"
colour_code Orange = codes "#f0b040"
colour_code Sky = codes "#7cc6f0"
colour_code Green = codes "#40b890"
colour_code Yellow = codes "#f4e85c"
colour_code Pink = codes "#dc9cbc"
colour_code Red = codes "#c03a00"
colour_code Blue = codes "#5c9ad8"
colour_code Vermilion = codes "#e48858"

-- an anchor as a word of SVG
abbrev pub anchor_code : Anchor → List ℕ
anchor_code Start = codes "start"
anchor_code Middle = codes "middle"
