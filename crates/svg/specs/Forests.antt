-- Trees of a text, and their text.
use Rattle.std.specs.Prelude.{ℕ, ◌==◌, ◌&&◌, nat_le, List, [], ◌∷◌, ◌++◌, if◌then◌else◌, codes}
use Rattle.std.specs.Fmt.{decimal}
use Rattle.std.specs.List.{flat_map}

-- an escaped byte: `&`, `<`, `>` and `"` become named entities, and a byte that isn't printable ASCII becomes `?`
abbrev pub escaped_byte : ℕ → List ℕ
escaped_byte byte =
    if byte == 38 then codes "&amp;" else if byte == 60 then codes "&lt;" else if byte == 62 then codes "&gt;"
    else if byte == 34 then codes "&quot;" else if nat_le 32 byte && nat_le byte 126 then byte ∷ [] else codes "?"

-- a text with each of its bytes escaped
abbrev pub escaped : List ℕ → List ℕ
escaped text = flat_map escaped_byte text

-- a part of an attribute's value: a word, or a number
pub data Piece : Type 0 where
  Word : List ℕ → Piece
  Number : ℕ → Piece

-- the text of a part: an escaped word, or a number in decimal
abbrev pub piece_text : Piece → List ℕ
piece_text (Word word) = escaped word
piece_text (Number n) = decimal n

-- an attribute: its name, and the parts of its value
pub record Attribute : Type 0 where
  pub name : List ℕ
  pub value : List Piece

-- the text of an attribute, with a space before it
unfoldable pub attribute_text : Attribute → List ℕ
attribute_text a = codes " " ++ a.name ++ codes "=\"" ++ flat_map piece_text a.value ++ codes "\""

-- trees beside each other: nothing, or a text or an element and the trees after it; an element has its name, its
-- attributes, and trees inside it
pub data Forest : Type 0 where
  Nothing : Forest
  Text : List ℕ → Forest → Forest
  Element : List ℕ → List Attribute → Forest → Forest → Forest

-- the text of an element with this text inside; its closing tag ends the line
unfoldable pub element_text : List ℕ → List Attribute → List ℕ → List ℕ
element_text name attributes inside =
    codes "<" ++ name ++ flat_map attribute_text attributes ++ codes ">" ++ inside
    ++ codes "</" ++ name ++ codes ">\n"

-- the text of trees: each tag is closed, and each text is escaped
abbrev pub forest_text : Forest → List ℕ
forest_text Nothing = []
forest_text (Text text following) = escaped text ++ forest_text following
forest_text (Element name attributes inside following) =
    element_text name attributes (forest_text inside) ++ forest_text following
