use Rattle.std.proofs.Common.{ℕ, List, Option, drop}
use Rattle.std.specs.Io.KnownBytes.{Appends}
use Rattle.svg.specs.Forests.{forest_text}
use Rattle.svg.specs.Pictures.{shapes_forest}
use Rattle.svg.proofs.printing.print_shapes.Given as goal

-- Whoever appends the parts that are left has appended all parts.
abbrev pub invariant-loop-shape : goal.invariant-loop-shape
invariant-loop-shape g l = (later : Option (List ℕ)) → Appends (g.W.Write.contents l.out) later (forest_text (shapes_forest (drop l.shape-index l.shapes))) → Appends (g.W.Write.contents l.fn.out) later (forest_text (shapes_forest l.shapes))
