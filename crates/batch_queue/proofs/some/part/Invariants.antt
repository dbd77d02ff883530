use Rattle.batch_queue.proofs.some.part.Given as goal

abbrev pub ghosts-exchange_mark : goal.ghosts-exchange_mark
ghosts-exchange_mark g a = record { position = a.position; end = a.end }
