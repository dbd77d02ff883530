-- The text of trees beside each other.
use Rattle.std.proofs.Common.{◌≡◌, append_assoc, append-nil, ℕ, suc, ◌<◌, ◌+◌, List, [], ◌∷◌, ◌++◌, ◌∙◌, sym, ap, length, drop, get_or, add-one, refl, Option, Result, subst}
use Rattle.std.proofs.Math.Seq.{drop-cons}
use Rattle.std.specs.Io.KnownBytes.{Appends}
use Rattle.std.proofs.KnownBytes.{Appends-trans}
use Rattle.std.proofs.lemmas.Result.{on_ok_weaker}
use Rattle.std.specs.Prelude.{OnOk}
use Rattle.svg.specs.declared.shapes.Colour.{Colour}
use Rattle.svg.specs.declared.shapes.Colour.TheVariants.{Ink, Dim, Faint, White, Grey, Orange, Sky, Green, Yellow, Pink, Red, Blue, Vermilion}
use Rattle.svg.specs.declared.shapes.Anchor.{Anchor}
use Rattle.svg.specs.declared.shapes.Anchor.TheVariants.{Start, Middle}
use Rattle.svg.specs.declared.shapes.Picture.{Picture}
use Rattle.svg.specs.declared.shapes.Shape.{Shape}
use Rattle.svg.specs.declared.shapes.Shape.TheVariants.{Cell, Bar, Down, Up, Line, Titled, Words}
use Rattle.std.specs.Prelude.{codes}
use Rattle.std.specs.List.{flat_map}
use Rattle.svg.specs.Colours.{colour_code, anchor_code}
use Rattle.svg.specs.Forests.{Attribute, attribute_text, Forest, Nothing, Text, Element, element_text, escaped, forest_text}
use Rattle.svg.specs.Pictures.{box_attributes, bordered_attributes, line_attributes, words_attributes, path_from, shape_tree, shapes_forest, picture_attributes, picture_text}

-- the text that was appended before, and the text that a call appends if it returns Ok
pub then_appends : {A E : Type 0} (result : Result A E) (a b c : Option (List ℕ)) (x y z : List ℕ) → Appends a b x → OnOk result (Appends b c y) → x ++ y ≡ z → OnOk result (Appends a c z)
then_appends result a b c x y z first h e = on_ok_weaker result (λ k. subst (Appends a c) e (Appends-trans a b c x y first k)) h

pub colour_escaped : (colour : Colour) → escaped (colour_code colour) ≡ colour_code colour
colour_escaped Ink = refl
colour_escaped Dim = refl
colour_escaped Faint = refl
colour_escaped White = refl
colour_escaped Grey = refl
colour_escaped Orange = refl
colour_escaped Sky = refl
colour_escaped Green = refl
colour_escaped Yellow = refl
colour_escaped Pink = refl
colour_escaped Red = refl
colour_escaped Blue = refl
colour_escaped Vermilion = refl

pub anchor_escaped : (anchor : Anchor) → escaped (anchor_code anchor) ≡ anchor_code anchor
anchor_escaped Start = refl
anchor_escaped Middle = refl

element_before : (name : List ℕ) (attributes : List Attribute) (inside following : Forest) → forest_text (Element name attributes inside Nothing) ++ forest_text following ≡ forest_text (Element name attributes inside following)
element_before name attributes inside following =
    let text : List ℕ = element_text name attributes (forest_text inside) in
    let bare : text ++ [] ≡ text = append-nil text in
    ap (λ w. w ++ forest_text following) bare

-- the text of a part and of the parts after it
pub shape_before : (shape : Shape) (following : Forest) → forest_text (shape_tree shape Nothing) ++ forest_text following ≡ forest_text (shape_tree shape following)
shape_before (Cell x y width height fill) following = element_before (codes "rect") (bordered_attributes x y width height fill) Nothing following
shape_before (Bar x y width height fill) following = element_before (codes "rect") (box_attributes x y width height fill) Nothing following
shape_before (Down x y) following = element_before (codes "path") (path_from x y (codes "h8l-4 5z") ∷ []) Nothing following
shape_before (Up x y) following = element_before (codes "path") (path_from x y (codes "h8l-4-5z") ∷ []) Nothing following
shape_before (Line x1 y1 x2 y2 ink) following = element_before (codes "line") (line_attributes x1 y1 x2 y2 ink) Nothing following
shape_before (Titled x y width height fill title) following = element_before (codes "rect") (bordered_attributes x y width height fill) (Element (codes "title") [] (Text title Nothing) Nothing) following
shape_before (Words x y anchor ink text) following = element_before (codes "text") (words_attributes x y anchor ink) (Text text Nothing) following

-- a part that is printed before those that are left
pub shapes_more : (old new later : Option (List ℕ)) (i : ℕ) (shapes : List Shape) (shape : Shape) → i < length shapes → shape ≡ get_or shapes i shape
    → Appends old new (forest_text (shape_tree shape Nothing)) → Appends new later (forest_text (shapes_forest (drop (i + 1) shapes))) → Appends old later (forest_text (shapes_forest (drop i shapes)))
shapes_more old new later i shapes shape within is h k =
    let e : drop i shapes ≡ shape ∷ drop (i + 1) shapes = drop-cons shapes i shape within ∙ (ap (λ y. y ∷ drop (suc i) shapes) (sym is) ∙ ap (λ n. shape ∷ drop n shapes) (sym (add-one i))) in
    rw (e, sym (shape_before shape (shapes_forest (drop (i + 1) shapes)))) (Appends-trans old new later _ _ h k)

svg_text : (attributes : List Attribute) (inside : List ℕ) → (((codes "<svg" ++ flat_map attribute_text attributes) ++ codes ">") ++ inside) ++ codes "</svg>\n" ≡ element_text (codes "svg") attributes inside
unfolding element_text
svg_text attributes inside =
    let front : List ℕ = ((codes "<svg" ++ flat_map attribute_text attributes) ++ codes ">") ++ inside in
    sym (append_assoc (front ++ codes "</") (codes "svg") (codes ">\n") ∙ append_assoc front (codes "</") (codes "svg" ++ codes ">\n"))

-- what is printed of a picture, part by part, is its text
pub picture_joined : (picture : Picture) → ((((codes "<svg" ++ flat_map attribute_text (picture_attributes picture.width picture.height)) ++ codes ">") ++ element_text (codes "title") [] (escaped picture.title)) ++ forest_text (shapes_forest picture.shapes)) ++ codes "</svg>\n" ≡ picture_text picture
unfolding picture_text
picture_joined picture =
    let attributes : List Attribute = picture_attributes picture.width picture.height in
    let opened : List ℕ = (codes "<svg" ++ flat_map attribute_text attributes) ++ codes ">" in
    let title : List ℕ = element_text (codes "title") [] (escaped picture.title) in
    let shapes : List ℕ = forest_text (shapes_forest picture.shapes) in
    let inside : List ℕ = element_text (codes "title") [] (escaped picture.title ++ []) ++ shapes in
    let bare : escaped picture.title ≡ escaped picture.title ++ [] = sym (append-nil (escaped picture.title)) in
    let alone : element_text (codes "svg") attributes inside ≡ element_text (codes "svg") attributes inside ++ [] = sym (append-nil (element_text (codes "svg") attributes inside)) in
    ap (λ w. w ++ codes "</svg>\n") (append_assoc opened title shapes) ∙ (svg_text attributes (title ++ shapes)
    ∙ (ap (λ t. element_text (codes "svg") attributes (element_text (codes "title") [] t ++ shapes)) bare ∙ alone))
