use Rattle.thread_table.proofs.Common.{raise_event, claim_event}
use Rattle.thread_table.proofs.hand.ThreadTable.move_to.Given as goal

abbrev pub ghosts-exchange_head : goal.ghosts-exchange_head
ghosts-exchange_head a = record { call = a.seat.now.id; event = claim_event a.seat.now.id a.ring a.element }

abbrev pub ghosts-raise : goal.ghosts-raise
ghosts-raise a = record { call = a.seat.now.id; event = raise_event a.seat.now.id a.seat.now.me.0 a.ring a.head }
