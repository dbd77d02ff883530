use Rattle.meters.proofs.ends.Meters.split_share.Given as goal

abbrev pub ghosts-split_share_off : goal.ghosts-split_share_off
ghosts-split_share_off a = record { parts = a.share }
