use Rattle.event_theory.specs.declared.event.Event.TheVariants as events
use Rattle.thread_table.proofs.hand.ThreadTable.try_deliver.Given as goal

abbrev pub ghosts-exchange_state : goal.ghosts-exchange_state
ghosts-exchange_state a = record { call = a.seat.now.id; event = events.Deliver a.seat.now.id a.element }
