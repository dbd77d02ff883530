use Rattle.thread_table.proofs.Common.{rules, ℕ, slots_items, PlaceOf, Place}
use Rattle.thread_table.specs.declared.places.Place.TheVariants as places
use Rattle.thread_table.proofs.Closing.Locating.{filled_next}
use Rattle.thread_table.proofs.close.read_places.Goals as goal

pub loop-element-preserved : goal.loop-element-preserved
loop-element-preserved c = filled_next (λ (x : ℕ) (p : Place). PlaceOf x (slots_items c.args.closed.now.words) p) c.loop-element.places 64 c.loop-element.element c.from.result c.place_of.result places.Held
    (search rules) c.loop-element-test.true c.place_of.ensures c.loop-element.invariant
