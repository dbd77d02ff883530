-- Ends that have done nothing, beside their objects.
use Rattle.boot_objects.proofs.Common.{◌≡◌, ℕ, List, length, ap, ◌∙◌, ClaimQueue, QueueEnd, QueueOps, nothing_did, Ghosts, ProcChain, ChainEnd, AnyQuaject, Queues, AtChain, Stake, no_stake, idle_queue, idle_chain, stake, chain_stake, AreEndsOf, AreChainEndsOf, queue_table, end_table, chain_end_table, chain_table, IsIdle, by_sizes, Meters, ThreadTable, Parts, IsFirstHand, IsFirstSeat, IsIdleEnd, IsIdleChainEnd, IsStock, IsChainStock, lines_of, queue_account, chain_account, account, nothing, shown_in, IsUnused}
use Rattle.turn_dispatch.specs.Tallies.{tally}
use Rattle.processor.proofs.Summing.{none_shown}
use Rattle.boot_objects.proofs.Summed.{at_map}
use Rattle.boot_objects.proofs.Zips.{zip_second, zip_same, zip_each}

pub ends_of : {n : ℕ} (queues : List (ClaimQueue n)) (ends : List (QueueEnd n)) → IsStock queues ends → AreEndsOf queues ends
ends_of queues ends h = zip_same IsIdleEnd queue_table end_table (λ queue end idle. idle.its) queues ends h

idle_at : {n : ℕ} (queues : List (ClaimQueue n)) (ends : List (QueueEnd n)) → IsStock queues ends → (q : ℕ) → queue_account ends q ≡ idle_queue
idle_at queues ends h q = ap lines_of (at_map stake (λ (s : Stake QueueOps). s.did) (no_stake nothing_did) ends q
    ∙ zip_each IsIdleEnd (λ end. (stake end).did) nothing_did (λ queue end idle. λ i. record { runs = idle.unused.0 i; takes = idle.unused.1 i; shuts = idle.shuts i }) queues ends h q)

module _ {g : Ghosts AnyQuaject Queues} where
  pub chain_ends_of : (chains : List (ProcChain AnyQuaject Queues)) (ends : List (ChainEnd AnyQuaject Queues g)) → IsChainStock chains ends → AreChainEndsOf chains ends
  chain_ends_of chains ends h = record {
    tables = zip_same IsIdleChainEnd chain_table chain_end_table (λ chain end idle. idle.its.0) chains ends h;
    idle = zip_second IsIdleChainEnd IsIdle (λ chain end idle. idle.idle) chains ends h;
  }

  idle_chain_at : (chains : List (ProcChain AnyQuaject Queues)) (ends : List (ChainEnd AnyQuaject Queues g)) → IsChainStock chains ends → (k : ℕ) → chain_account ends k ≡ idle_chain
  idle_chain_at chains ends h k = at_map chain_stake (λ (s : Stake AtChain). s.did) (no_stake idle_chain) ends k
      ∙ zip_each IsIdleChainEnd (λ end. (chain_stake end).did) idle_chain (λ chain end idle. λ i. record { notes = idle.puts i; ran = length (idle.takes i) }) chains ends h k

-- a first station over new ends did nothing
pub did_nothing : (queues : Queues) (list : List (ProcChain AnyQuaject Queues)) (table : ThreadTable) (meters : Meters) (parts : Parts) → IsStock queues.small.items parts.queues.small.items → IsStock queues.large.items parts.queues.large.items → IsChainStock list parts.chains.items
    → IsFirstHand table parts.hand → IsFirstSeat meters parts.meters → IsUnused parts → account parts ≡ nothing
did_nothing queues list table meters parts small large chains hand seat unused = λ i. record {
  queues = by_sizes (account parts).queues (λ q. idle_queue) (idle_at queues.small.items parts.queues.small.items small) (idle_at queues.large.items parts.queues.large.items large) i;
  chains = λ k. idle_chain_at list parts.chains.items chains k i;
  hand = tally (hand.knows i).own.made;
  meters = (seat.knows i).own;
  heard = unused.heard i;
  shown = (ap shown_in unused.signals ∙ none_shown) i;
}
