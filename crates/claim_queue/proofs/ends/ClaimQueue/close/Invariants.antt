use Rattle.claim_queue.proofs.ends.ClaimQueue.close.Given as goal

abbrev pub ghosts-count : goal.ghosts-count
ghosts-count g a = record { call = a.seat.id }
