use Rattle.thread_table.specs.Sets.{marks}
use Rattle.thread_table.proofs.hand.ThreadTable.split.Given as goal

-- the new hand serves the processors of the mask
abbrev pub ghosts-split_off : goal.ghosts-split_off
ghosts-split_off a = record { mask = marks 8 a.processors }

abbrev pub ghosts-count_up : goal.ghosts-count_up
ghosts-count_up a = record { call = a.seat.now.id; element = 0 }
