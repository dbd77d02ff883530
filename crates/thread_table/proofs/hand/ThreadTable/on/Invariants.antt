use Rattle.event_theory.specs.declared.event.Event.TheVariants as events
use Rattle.thread_table.proofs.hand.ThreadTable.on.Given as goal

abbrev pub ghosts-swap_on : goal.ghosts-swap_on
ghosts-swap_on a = record { call = a.seat.now.id; event = events.On a.seat.now.id a.processor a.element }
