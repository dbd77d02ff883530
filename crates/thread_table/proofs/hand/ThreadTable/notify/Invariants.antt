use Rattle.event_theory.specs.declared.event.Event.TheVariants as events
use Rattle.thread_table.proofs.hand.ThreadTable.notify.Given as goal

abbrev pub ghosts-add_notify : goal.ghosts-add_notify
ghosts-add_notify a = record { call = a.seat.now.id; event = events.NotifyWait a.seat.now.id a.wait }
