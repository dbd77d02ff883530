-- True ends: their steps are in order, and their number is theirs.
use Rattle.table_theory.proofs.Common.{List, map, AbsState, EndState, entry_of, ObjectModel, Step, EndsStand, AreValidViews, AreOrdered}
pub use Rattle.table_theory.proofs.Orders.{after}

module _ {K O : Type 0} {T : ObjectModel O} {nothing : K} {first : O} {now : AbsState O} {vs : List (EndState K O)} where
  -- all steps of all ends up to now
  abbrev pub steps_to : AreValidViews T nothing first now vs → List (Step O)
  steps_to t = map entry_of t.course.course

  abbrev pub order_of : AreValidViews T nothing first now vs → AreOrdered T first now vs
  order_of t = record { course = t.course; real = t.real; first_is = t.first_is; seen = t.seen; joined = t.joined; joined_first = t.joined_first }

  abbrev pub with_ends : AreOrdered T first now vs → EndsStand nothing now.ends vs → AreValidViews T nothing first now vs
  with_ends o ends = record { ends = ends; course = o.course; real = o.real; first_is = o.first_is; seen = o.seen; joined = o.joined; joined_first = o.joined_first }
