use Rattle.thread_table.proofs.hand.ThreadTable.close.Given as goal

abbrev pub ghosts-count : goal.ghosts-count
ghosts-count a = record { call = a.seat.id }
