-- The rule: there are lawful meters that the words and the views show.
use Rattle.std.specs.Prelude.{◌≤◌}
use Rattle.table_theory.specs.declared.views.AbsState.{AbsState}
use Rattle.table_theory.specs.Ledgers.{first_of, IsValidView, TableInv}
use Rattle.atomic_table.specs.Table.{State}
use Rattle.meters.specs.declared.rule.Reading.{Reading}
use Rattle.meters.specs.declared.rule.Shape.{Shape}
use Rattle.meters.specs.Changes.{first_reading}
use Rattle.meters.specs.Own.{SeatView, of_meters, nothing_did}
use Rattle.meters.specs.Views.{IsPart, ViewsShow}

pub record Rule (key : Shape) (s : State Unit SeatView) : Type 0 where
  pub now : AbsState Reading
  pub stands : TableInv of_meters nothing_did (first_reading key.clock) now s.words s.views
  pub listed : ViewsShow key.clock now.object s.views

-- the view of the first end of the meters
abbrev pub newcomer : Shape → SeatView
newcomer key = first_of nothing_did (first_reading key.clock)

-- The end's list is true, and lists no alarm as set, fired or cancelled more often than it was. The end has seen that
-- some end exists.
abbrev pub IsSound : SeatView → Type 0
IsSound v = IsValidView of_meters v × IsPart v × (1 ≤ v.seen.ends)
