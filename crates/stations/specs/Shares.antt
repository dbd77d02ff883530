-- Shares of several owners, and parts of shares.
use Rattle.std.specs.Prelude.{◌+◌, ℕ}
use Rattle.table_theory.specs.Sharing.{given, kept}
use Rattle.turn_io.specs.Accounts.{Stake}
use Rattle.processor.specs.Accounts.{Shares}

-- the stake that an end keeps after a split
abbrev pub keep : {D : Type 0} → Stake D → Stake D
keep stake = record stake { share = kept stake.share }

-- the stake that a split gives to the new end, which did nothing
abbrev pub give : {D : Type 0} → D → Stake D → Stake D
give none stake = record { did = none; share = given stake.share }

-- no share of anything
abbrev pub no_shares : Shares
no_shares = record { queues = λ q. 0; chains = λ q. 0; hand = 0; meters = 0 }

-- the shares of two owners, added
abbrev pub both_shares : Shares → Shares → Shares
both_shares a b = record {
  queues = λ q. a.queues q + b.queues q;
  chains = λ q. a.chains q + b.chains q;
  hand = a.hand + b.hand;
  meters = a.meters + b.meters;
}

-- `part` of each share
abbrev pub each_share : (ℕ → ℕ) → Shares → Shares
each_share part a = record {
  queues = λ q. part (a.queues q);
  chains = λ q. part (a.chains q);
  hand = part a.hand;
  meters = part a.meters;
}
