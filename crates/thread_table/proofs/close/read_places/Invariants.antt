use Rattle.thread_table.proofs.Common.{◌≡◌, ◌<◌, ℕ, get_or, length, slots_items, PlaceOf}
use Rattle.thread_table.specs.declared.places.Place.TheVariants as places
use Rattle.thread_table.proofs.close.read_places.Given as goal

abbrev pub invariant-loop-element : goal.invariant-loop-element
invariant-loop-element l = (length l.places ≡ 64) × ((x : ℕ) → x < l.element → PlaceOf x (slots_items l.closed.words) (get_or l.places x places.Held))
