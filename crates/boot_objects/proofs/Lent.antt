-- A list of ends that was lent as a slice.
use Rattle.boot_objects.proofs.Common.{◌≡◌, List, length, map, ◌∙◌, Vec, as_long, with_items_is}
use Rattle.std.specs.Vec.{with_items}

-- the list then has what came back of the slice, if the field that distinguishes the ends stays
pub came_back : {X C : Type 0} (f : X → C) (list : Vec X) (old new : List X) → map f new ≡ map f old → length old ≡ list.len → (with_items list new).items ≡ new
came_back f list old new same long = with_items_is list new (as_long f f new old same ∙ long)
