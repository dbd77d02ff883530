use Rattle.event_theory.specs.declared.event.Event.TheVariants as events
use Rattle.thread_table.proofs.hand.ThreadTable.stop.Given as goal

abbrev pub ghosts-or_stop : goal.ghosts-or_stop
ghosts-or_stop a = record { call = a.seat.now.id; event = events.Stop a.seat.now.id a.element }
