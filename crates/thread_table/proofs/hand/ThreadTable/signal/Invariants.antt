use Rattle.event_theory.specs.declared.event.Event.TheVariants as events
use Rattle.thread_table.proofs.hand.ThreadTable.signal.Given as goal

abbrev pub ghosts-or_signal : goal.ghosts-or_signal
ghosts-or_signal a = record { call = a.seat.now.id; event = events.Signal a.seat.now.id a.element a.signal }
