use Rattle.event_theory.specs.declared.event.Event.TheVariants as events
use Rattle.thread_table.proofs.hand.ThreadTable.off.Given as goal

abbrev pub ghosts-swap_off : goal.ghosts-swap_off
ghosts-swap_off a = record { call = a.seat.now.id; event = events.Off a.seat.now.id a.processor }
