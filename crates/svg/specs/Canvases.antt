-- A canvas is the list of the parts that are drawn.
use Rattle.std.specs.Prelude.{◌≡◌, ℕ, ◌+◌, ◌-◌, ◌^◌, min, List, [], ◌∷◌, ◌++◌, Result, Ok, Err}
use Rattle.event_theory.specs.declared.refusal.OutOfMemory.{OutOfMemory}
use Rattle.svg.specs.declared.shapes.Shape.{Shape}

-- the part is drawn upon all others, or memory was exhausted and nothing is drawn
abbrev pub IsDrawn : List Shape → Shape → Result (Unit {0}) OutOfMemory → List Shape → Type 0
IsDrawn old shape (Ok done) new = new ≡ old ++ shape ∷ []
IsDrawn old shape (Err refused) new = new ≡ old

-- the height of a box
abbrev pub box_height : ℕ
box_height = 18

-- the base line of the letters of a box with its upper side here
abbrev pub base_line : ℕ → ℕ
base_line y = min (y + 13) (2 ^ 32 - 1)
