use Rattle.claim_queue.proofs.ends.ClaimQueue.raise_place.Given as goal

abbrev pub ghosts-store_data : goal.ghosts-store_data
ghosts-store_data g a = record { start = a.start; index = a.index }

abbrev pub ghosts-store_flag : goal.ghosts-store_flag
ghosts-store_flag g a = record { start = a.start; index = a.index }
