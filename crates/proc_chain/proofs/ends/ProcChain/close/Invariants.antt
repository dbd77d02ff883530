use Rattle.proc_chain.proofs.ends.ProcChain.close.Given as goal

abbrev pub ghosts-count : goal.ghosts-count
ghosts-count g a = record { call = a.seat.id }
