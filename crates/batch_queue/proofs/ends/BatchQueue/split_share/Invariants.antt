use Rattle.batch_queue.proofs.ends.BatchQueue.split_share.Given as goal

abbrev pub ghosts-split_share_off : goal.ghosts-split_share_off
ghosts-split_share_off g a = record { parts = a.share }
