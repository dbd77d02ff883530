use Rattle.stations.proofs.Summing.{kept_account, born_account, born_seat, kept_shares, given_shares}
use Rattle.stations.proofs.station_splitting.split_station.Goals as goal

pub returns-clause-effect : goal.returns-clause-effect
returns-clause-effect c = let s = c.split_parts-parts.ensures.split in (kept_account _ _ _ _ s, born_account _ _ _ _ s c.split_parts-parts.ensures.unused)

pub returns-clause-shares : goal.returns-clause-shares
returns-clause-shares c = let s = c.split_parts-parts.ensures.split in (kept_shares _ _ _ _ s, given_shares _ _ _ _ s)

pub returns-clause-fresh : goal.returns-clause-fresh
returns-clause-fresh c = let s = c.split_parts-parts.ensures.split in
    record { did = born_account _ _ _ _ s c.split_parts-parts.ensures.unused; seat = born_seat _ _ _ _ s; unused = c.split_parts-parts.ensures.unused }
