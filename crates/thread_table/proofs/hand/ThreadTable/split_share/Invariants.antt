use Rattle.thread_table.specs.Sets.{marks}
use Rattle.thread_table.proofs.hand.ThreadTable.split_share.Given as goal

-- the new hand serves the processors of the mask
abbrev pub ghosts-split_share_off : goal.ghosts-split_share_off
ghosts-split_share_off a = record { mask = marks 8 a.processors; parts = a.share }

abbrev pub ghosts-count_up : goal.ghosts-count_up
ghosts-count_up a = record { call = a.seat.now.id; element = 0 }
