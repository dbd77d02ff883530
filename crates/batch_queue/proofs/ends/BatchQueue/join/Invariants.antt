use Rattle.batch_queue.proofs.Common.{emptied, nothing_did, some}
use Rattle.batch_queue.proofs.ends.BatchQueue.join.Given as goal

abbrev pub ghosts-take_in : goal.ghosts-take_in
ghosts-take_in g a = record { view = some (emptied nothing_did a.seat.now.me.0) }
