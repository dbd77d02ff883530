use Rattle.batch_queue.proofs.put.claim.Given as goal

abbrev pub ghosts-exchange_head : goal.ghosts-exchange_head
ghosts-exchange_head g a = record { items = a.items.now }
