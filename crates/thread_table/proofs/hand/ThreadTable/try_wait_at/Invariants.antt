use Rattle.event_theory.specs.declared.event.Event.TheVariants as events
use Rattle.thread_table.proofs.Common.{raise_event}
use Rattle.thread_table.proofs.hand.ThreadTable.try_wait_at.Given as goal

abbrev pub ghosts-exchange_head_at : goal.ghosts-exchange_head_at
ghosts-exchange_head_at a = record { call = a.seat.now.id; event = events.WaitAt a.seat.now.id a.wait a.element a.ticket }

abbrev pub ghosts-raise : goal.ghosts-raise
ghosts-raise a = record { call = a.seat.now.id; event = raise_event a.seat.now.id a.seat.now.me.0 a.ring a.head }
