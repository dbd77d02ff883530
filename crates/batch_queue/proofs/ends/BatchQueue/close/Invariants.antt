use Rattle.batch_queue.proofs.ends.BatchQueue.close.Given as goal

abbrev pub ghosts-count : goal.ghosts-count
ghosts-count g a = record { call = a.seat.id }
