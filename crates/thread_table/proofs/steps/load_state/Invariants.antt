use Rattle.thread_table.proofs.steps.load_state.Given as goal

abbrev pub ghosts-load : goal.ghosts-load
ghosts-load a = record { call = a.seat.now.id; element = 0 }
