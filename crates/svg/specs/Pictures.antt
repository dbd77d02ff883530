-- A picture as a tree. The text of the tree is SVG.
use Rattle.std.specs.Prelude.{ℕ, List, [], ◌∷◌, codes}
use Rattle.svg.specs.declared.shapes.Colour.{Colour}
use Rattle.svg.specs.declared.shapes.Anchor.{Anchor}
use Rattle.svg.specs.declared.shapes.Shape.{Shape}
use Rattle.svg.specs.declared.shapes.Shape.TheVariants.{Cell, Bar, Down, Up, Line, Titled, Words}
use Rattle.svg.specs.declared.shapes.Picture.{Picture}
use Rattle.svg.specs.Colours.{colour_code, anchor_code}
use Rattle.svg.specs.Forests.{Word, Number, Attribute, Forest, Nothing, Text, Element, forest_text}

-- an attribute that is a number
abbrev pub numeric : List ℕ → ℕ → Attribute
numeric name n = record { name = name; value = Number n ∷ [] }

-- an attribute that is a word
abbrev pub worded : List ℕ → List ℕ → Attribute
worded name word = record { name = name; value = Word word ∷ [] }

-- the attributes of a box: its place, its size, and its colour
abbrev pub box_attributes : ℕ → ℕ → ℕ → ℕ → Colour → List Attribute
box_attributes x y width height fill =
    numeric (codes "x") x ∷ numeric (codes "y") y ∷ numeric (codes "width") width ∷ numeric (codes "height") height
    ∷ worded (codes "fill") (colour_code fill) ∷ []

-- the attributes of a text: its place, its anchor, and its colour
abbrev pub words_attributes : ℕ → ℕ → Anchor → Colour → List Attribute
words_attributes x y anchor ink =
    numeric (codes "x") x ∷ numeric (codes "y") y ∷ worded (codes "text-anchor") (anchor_code anchor)
    ∷ worded (codes "fill") (colour_code ink) ∷ []

-- the attributes of a line: its two points, and its colour
abbrev pub line_attributes : ℕ → ℕ → ℕ → ℕ → Colour → List Attribute
line_attributes x1 y1 x2 y2 ink =
    numeric (codes "x1") x1 ∷ numeric (codes "y1") y1 ∷ numeric (codes "x2") x2 ∷ numeric (codes "y2") y2
    ∷ worded (codes "stroke") (colour_code ink) ∷ []

-- the attributes of a box with a border
abbrev pub bordered_attributes : ℕ → ℕ → ℕ → ℕ → Colour → List Attribute
bordered_attributes x y width height fill =
    worded (codes "stroke") (codes "#222222") ∷ box_attributes x y width height fill

-- a path that begins at a point
abbrev pub path_from : ℕ → ℕ → List ℕ → Attribute
path_from x y steps =
    record { name = codes "d"; value = Word (codes "M") ∷ Number x ∷ Word (codes " ") ∷ Number y ∷ Word steps ∷ [] }

-- the tree of a part of a picture, before the trees of other parts
abbrev pub shape_tree : Shape → Forest → Forest
shape_tree (Cell x y width height fill) following =
    Element (codes "rect") (bordered_attributes x y width height fill) Nothing following
shape_tree (Bar x y width height fill) following =
    Element (codes "rect") (box_attributes x y width height fill) Nothing following
shape_tree (Down x y) following = Element (codes "path") (path_from x y (codes "h8l-4 5z") ∷ []) Nothing following
shape_tree (Up x y) following = Element (codes "path") (path_from x y (codes "h8l-4-5z") ∷ []) Nothing following
shape_tree (Line x1 y1 x2 y2 ink) following =
    Element (codes "line") (line_attributes x1 y1 x2 y2 ink) Nothing following
shape_tree (Titled x y width height fill title) following =
    Element (codes "rect") (bordered_attributes x y width height fill)
    (Element (codes "title") [] (Text title Nothing) Nothing) following
shape_tree (Words x y anchor ink text) following =
    Element (codes "text") (words_attributes x y anchor ink) (Text text Nothing) following

-- the trees of all parts, in their order
abbrev pub shapes_forest : List Shape → Forest
shapes_forest [] = Nothing
shapes_forest (shape ∷ shapes) = shape_tree shape (shapes_forest shapes)

-- the attributes of the whole: its size, and its font
abbrev pub picture_attributes : ℕ → ℕ → List Attribute
picture_attributes width height =
    worded (codes "xmlns") (codes "http://www.w3.org/2000/svg") ∷ numeric (codes "width") width
    ∷ numeric (codes "height") height ∷ worded (codes "font-family") (codes "monospace")
    ∷ numeric (codes "font-size") 12 ∷ []

-- a picture is one tree: its title, and then its parts
abbrev pub picture_tree : Picture → Forest
picture_tree picture =
    Element (codes "svg") (picture_attributes picture.width picture.height)
    (Element (codes "title") [] (Text picture.title Nothing) (shapes_forest picture.shapes)) Nothing

-- the text of a picture's tree
unfoldable pub picture_text : Picture → List ℕ
picture_text picture = forest_text (picture_tree picture)
