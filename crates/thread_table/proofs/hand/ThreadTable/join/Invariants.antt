use Rattle.thread_table.proofs.Common.{emptied}
use Rattle.thread_table.proofs.hand.ThreadTable.join.Given as goal

abbrev pub ghosts-take_in : goal.ghosts-take_in
ghosts-take_in a = record { view = emptied a.seat.now.me.0 }

abbrev pub ghosts-count_down : goal.ghosts-count_down
ghosts-count_down a = record { call = a.seat.now.id; element = 0 }
