-- The account and the shares of a station that is split or joined.
use Rattle.stations.proofs.Common.{◌≡◌, ◌||◌, ℕ, List, sym, ap, ◌∙◌, is_in, fun_ext, given, kept, AddsUp, numbers_add, no_shares, both_shares, each_share}
use Rattle.std.proofs.lemmas.List.{append-nil}
use Rattle.turn_dispatch.specs.Tallies.{tally}
use Rattle.thread_table.specs.Handles.{view_of}
use Rattle.thread_table.specs.Own.{View}
use Rattle.processor.specs.declared.station.Parts.{Parts}
use Rattle.processor.specs.Accounts.{nothing, ◌⊕◌, shown_in, account, seat_parted, shares, unheard, Shares}
use Rattle.stations.specs.Partings.{HaveBoth, AreSplit, AreJoined}
use Rattle.std.specs.Prelude.{nat_lt, slice_index_or}
use Rattle.std.proofs.Math.Nat.{add_comm}
use Rattle.std.proofs.lemmas.Bool.{ltb-true}
use Rattle.table_theory.proofs.Counting.{given_kept}
use Rattle.stations.proofs.Stakes.{chain_kept_at, chain_given_at, chain_joined_at, ends_given, ends_joined, ends_kept}
use Rattle.turn_dispatch.proofs.Tallies.{tally_more}
use Rattle.processor.specs.Stations.{IsUnused}
use Rattle.processor.proofs.Summing.{guarded, none_shown}

pub shares_add : AddsUp no_shares both_shares
shares_add = record {
  regroups = λ a b c i. record {
    queues = λ q. numbers_add.regroups (a.queues q) (b.queues q) (c.queues q) i;
    chains = λ q. numbers_add.regroups (a.chains q) (b.chains q) (c.chains q) i;
    hand = numbers_add.regroups a.hand b.hand c.hand i;
    meters = numbers_add.regroups a.meters b.meters c.meters i;
  };
  none_first = λ a i. record {
    queues = λ q. numbers_add.none_first (a.queues q) i;
    chains = λ q. numbers_add.none_first (a.chains q) i;
    hand = numbers_add.none_first a.hand i;
    meters = numbers_add.none_first a.meters i;
  };
  none_last = λ a i. record {
    queues = λ q. numbers_add.none_last (a.queues q) i;
    chains = λ q. numbers_add.none_last (a.chains q) i;
    hand = numbers_add.none_last a.hand i;
    meters = numbers_add.none_last a.meters i;
  };
}

pub shares_swap : (a b : Shares) → both_shares a b ≡ both_shares b a
shares_swap a b = λ i. record {
  queues = λ q. add_comm (a.queues q) (b.queues q) i;
  chains = λ q. add_comm (a.chains q) (b.chains q) i;
  hand = add_comm a.hand b.hand i;
  meters = add_comm a.meters b.meters i;
}

-- the parts kept and given make up the whole
pub shares_parted : (a : Shares) → both_shares (each_share kept a) (each_share given a) ≡ a
shares_parted a = λ i. record {
  queues = λ q. given_kept (a.queues q) i;
  chains = λ q. given_kept (a.chains q) i;
  hand = given_kept a.hand i;
  meters = given_kept a.meters i;
}

both_shown : (a b both : List ℕ) → HaveBoth a b both → shown_in both ≡ (λ e s. shown_in a e s || shown_in b e s)
both_shown a b both h = fun_ext (λ e. fun_ext (λ s. guarded (is_in (slice_index_or a e 0) s) (is_in (slice_index_or b e 0) s) (is_in (slice_index_or both e 0) s) (nat_lt e 64) (nat_lt s 16) (λ x y. h e s (ltb-true e 64 x) (ltb-true s 16 y))))

module _ (processors : ℕ) (old new born : Parts) (s : AreSplit processors old new born) where
  pub kept_account : account new ≡ account old
  kept_account = λ i. record {
    queues = (ends_kept old.queues new.queues born.queues s.queues).0 i;
    chains = λ q. (chain_kept_at old.chains.items new.chains.items born.chains.items s.chains i q).did;
    hand = tally (s.hand.acts.has i).own.made;
    meters = s.meters.own i;
    heard = (s.heard i).lines;
    shown = shown_in (s.signals i);
  }

  pub born_account : IsUnused born → account born ≡ nothing
  born_account unused = λ i. record {
    queues = (ends_given old.queues new.queues born.queues s.queues).0 i;
    chains = λ q. (chain_given_at old.chains.items new.chains.items born.chains.items s.chains i q).did;
    hand = tally (s.born_hand.same i).own.made;
    meters = (s.born_meters i).own;
    heard = unused.heard i;
    shown = (ap shown_in unused.signals ∙ none_shown) i;
  }

  -- its seat was not split, and took in no other
  pub born_seat : seat_parted born ≡ (0, 0)
  born_seat = λ i. ((s.born_meters i).member.splits, (s.born_meters i).member.joins)

  pub kept_shares : shares new ≡ each_share kept (shares old)
  kept_shares = λ i. record {
    queues = (ends_kept old.queues new.queues born.queues s.queues).1 i;
    chains = λ q. (chain_kept_at old.chains.items new.chains.items born.chains.items s.chains i q).share;
    hand = (s.hand.acts.has i).member.share;
    meters = (s.meters.member i).share;
  }

  pub given_shares : shares born ≡ each_share given (shares old)
  given_shares = λ i. record {
    queues = (ends_given old.queues new.queues born.queues s.queues).1 i;
    chains = λ q. (chain_given_at old.chains.items new.chains.items born.chains.items s.chains i q).share;
    hand = (s.born_hand.same i).member.share;
    meters = (s.born_meters i).member.share;
  }

module _ (old other new : Parts) (j : AreJoined old other new) where
  pub joined_account : account new ≡ account old ⊕ unheard (account other)
  joined_account = λ i. record {
    queues = (ends_joined old.queues other.queues new.queues j.queues).0 i;
    chains = λ q. (chain_joined_at old.chains.items new.chains.items other.chains.items j.chains i q).did;
    hand = (ap (λ (v : View). tally v.own.made) j.hand.acts.has ∙ tally_more (view_of old.hand).own.made (view_of other.hand).own.made) i;
    meters = j.meters.0.own i;
    heard = (ap (λ z. z.lines) j.heard ∙ sym (append-nil old.heard.lines)) i;
    shown = both_shown old.signals other.signals new.signals j.signals i;
  }

  pub joined_shares : shares new ≡ both_shares (shares old) (shares other)
  joined_shares = λ i. record {
    queues = (ends_joined old.queues other.queues new.queues j.queues).1 i;
    chains = λ q. (chain_joined_at old.chains.items new.chains.items other.chains.items j.chains i q).share;
    hand = (j.hand.acts.has i).member.share;
    meters = (j.meters.0.member i).share;
  }
