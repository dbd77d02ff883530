use Rattle.thread_table.proofs.Common.{take_event}
use Rattle.thread_table.proofs.hand.ThreadTable.take_first.Given as goal

abbrev pub ghosts-exchange_tail : goal.ghosts-exchange_tail
ghosts-exchange_tail a = record { call = a.seat.now.id; event = take_event a.seat.now.id a.ring }
