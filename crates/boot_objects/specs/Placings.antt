-- The places of the thread elements when the table is closed: none is held.
use Rattle.std.specs.Prelude.{◌≢◌, ◌<◌, ℕ, List, slice_index_or}
use Rattle.thread_table.specs.declared.places.Place.{Place}
use Rattle.thread_table.specs.declared.places.Place.TheVariants.{Held}

-- none of the 64 elements is held
abbrev pub NoneHeld : List Place → Type 0
NoneHeld places = (element : ℕ) → element < 64 → slice_index_or places element Held ≢ Held
