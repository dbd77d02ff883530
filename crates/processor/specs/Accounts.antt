-- The work of a station's ends, and their shares, each added up to one value.
use Rattle.std.specs.Prelude.{◌+◌, ◌&&◌, ◌||◌, ℕ, Bool, false, nat_lt, List, [], ◌++◌, slice_index_or}
use Rattle.boot_data.specs.Hearing.{Line}
use Rattle.boot_data.specs.declared.plan.QueueIndex.{QueueIndex}
use Rattle.turn_io.specs.Accounts.{AtQueue, idle_queue, both_queue, AtChain, idle_chain, both_chain, at_each}
use Rattle.turn_io.specs.Accounts.{work_of, shares_of, chain_account, chain_shares}
use Rattle.turn_dispatch.specs.Tallies.{Tally, tally, no_events, followed_by}
use Rattle.meters.specs.declared.rule.MeterOps.{MeterOps}
use Rattle.meters.specs.Handles as seats
use Rattle.meters.specs.Own.{nothing_did, did_both}
use Rattle.thread_table.specs.Answers.{is_in}
use Rattle.thread_table.specs.Handles.{view_of}
use Rattle.processor.specs.declared.station.Parts.{Parts}

-- An account of work: what was done at each queue, at each chain and at the meters, the tally of the hand's events, and
-- the lines heard. For each element and signal it has whether the signal was delivered
pub record Account : Type 0 where
  pub queues : QueueIndex → AtQueue
  pub chains : ℕ → AtChain
  pub hand : Tally
  pub meters : MeterOps
  pub heard : List Line
  pub shown : ℕ → ℕ → Bool

-- nothing was done
abbrev pub nothing : Account
nothing = record {
  queues = λ q. idle_queue;
  chains = λ q. idle_chain;
  hand = no_events;
  meters = nothing_did;
  heard = [];
  shown = λ element signal. false;
}

infixl 10 ◌⊕◌
-- account `a`, followed by account `b`
abbrev pub ◌⊕◌ : Account → Account → Account
a ⊕ b = record {
  queues = at_each both_queue a.queues b.queues;
  chains = at_each both_chain a.chains b.chains;
  hand = followed_by a.hand b.hand;
  meters = did_both a.meters b.meters;
  heard = a.heard ++ b.heard;
  shown = λ element signal. a.shown element signal || b.shown element signal;
}

-- whether the element is one of 64, the signal one of 16, and the element's mask has the signal
abbrev pub shown_in : List ℕ → ℕ → ℕ → Bool
shown_in masks element signal =
    nat_lt element 64 && (nat_lt signal 16 && is_in (slice_index_or masks element 0) signal)

-- the account of the work of a station's ends
abbrev pub account : Parts → Account
account parts = record {
  queues = work_of parts.queues;
  chains = chain_account parts.chains.items;
  hand = tally (view_of parts.hand).own.made;
  meters = (seats.view_of parts.meters).own;
  heard = parts.heard.lines;
  shown = shown_in parts.signals;
}

-- how often the seat of the meters was split, and how often another seat was joined to it
abbrev pub seat_parted : Parts → ℕ × ℕ
seat_parted parts = ((seats.view_of parts.meters).member.splits, (seats.view_of parts.meters).member.joins)

-- the account without the lines heard
abbrev pub unheard : Account → Account
unheard a = record a { heard = [] }

-- a share of each queue, of each chain, of the threads and of the meters
pub record Shares : Type 0 where
  pub queues : QueueIndex → ℕ
  pub chains : ℕ → ℕ
  pub hand : ℕ
  pub meters : ℕ

-- the shares that the ends of a station have
abbrev pub shares : Parts → Shares
shares parts = record {
  queues = shares_of parts.queues;
  chains = chain_shares parts.chains.items;
  hand = (view_of parts.hand).member.share;
  meters = (seats.view_of parts.meters).member.share;
}
