-- The knowledge of a hand: its ledger, whose object is the schedule.
use Rattle.std.specs.Prelude.{List}
use Rattle.event_theory.specs.declared.event.Event.{Event}
use Rattle.table_theory.specs.declared.views.EndState.{EndState}
use Rattle.thread_table.specs.declared.rule.HandState.{HandState}

abbrev pub View : Type 0
View = EndState HandState (List Event)
