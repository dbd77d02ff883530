use Rattle.event_theory.specs.declared.event.Event.TheVariants as events
use Rattle.thread_table.proofs.hand.ThreadTable.step_done.Given as goal

abbrev pub ghosts-load_done : goal.ghosts-load_done
ghosts-load_done a = record { call = a.seat.now.id; element = a.element }

abbrev pub ghosts-store_done : goal.ghosts-store_done
ghosts-store_done a = record { call = a.seat.now.id; event = events.Done a.seat.now.id a.element }
