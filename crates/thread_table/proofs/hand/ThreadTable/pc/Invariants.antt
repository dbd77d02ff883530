use Rattle.thread_table.proofs.hand.ThreadTable.pc.Given as goal

abbrev pub ghosts-load_done : goal.ghosts-load_done
ghosts-load_done a = record { call = a.seat.now.id; element = a.element }
