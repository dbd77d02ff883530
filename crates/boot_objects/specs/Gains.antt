-- The ends of a list gain the work and the shares of other ends that are joined to them.
use Rattle.std.specs.Prelude.{◌≡◌, ℕ, true, List, [], ◌∷◌, map, slice_index_or, Option, Some, None}
use Rattle.claim_queue.specs.declared.ends.QueueEnd.{QueueEnd}
use Rattle.claim_queue.specs.declared.rule.QueueOps.{QueueOps}
use Rattle.claim_queue.specs.Own.{nothing_did, did_both}
use Rattle.turn_io.specs.declared.queue_ends.QueueEnds.{QueueEnds}
use Rattle.turn_io.specs.Accounts.{AtQueue, idle_queue, both_queue, Stake, no_stake, both_stakes, stake, stakes}
use Rattle.turn_io.specs.Accounts.{at_each, at_one}
use Rattle.turn_io.specs.EndLists.{knows_shut_at, chain_end_puts, chain_end_takes, chain_end_share}
use Rattle.proc_chain.specs.declared.ends.ChainEnd.{ChainEnd}
use Rattle.proc_chain.specs.declared.quaject.Quaject.{Ghosts}
use Rattle.quajects.specs.declared.ports.Port.{Port}

module _ {n : ℕ} where
  -- the stake of the end at a port in the queue q: its claims and takings there, its shuts and its share
  abbrev pub port_stake : Option (Port n) → ℕ → Stake QueueOps
  port_stake None q = no_stake nothing_did
  port_stake (Some port) q = at_one (no_stake nothing_did) port.index (stake port.end) q

  -- the stakes in the queue q of the ends at these ports together
  abbrev pub port_stakes : List (Option (Port n)) → ℕ → Stake QueueOps
  port_stakes [] q = no_stake nothing_did
  port_stakes (port ∷ ports) q = both_stakes did_both (port_stake port q) (port_stakes ports q)

  -- The ends at these ports were joined to the ends of their queues. Each queue's end has its old stake and the stakes
  -- of the ports. If it knew that its queue is shut, it knows it still
  pub record Gained (ports : List (Option (Port n))) (old new : List (QueueEnd n)) : Type 0 where
    pub stakes_are : stakes new ≡ at_each (both_stakes did_both) (stakes old) (port_stakes ports)
    pub known : (q : ℕ) → knows_shut_at old q ≡ true → knows_shut_at new q ≡ true

-- the ends of small queues gained the ends at the first ports, and the ends of large ones the ends at the others
pub record QueuesGained (small : List (Option (Port 64))) (large : List (Option (Port 256))) (old new : QueueEnds)
    : Type 0 where
  pub small_gained : Gained small old.small.items new.small.items
  pub large_gained : Gained large old.large.items new.large.items

module _ {Q W : Type 0} {g : Ghosts Q W} where
  -- the stake of an end in its chain: the notes that it put, the notes that it took, and its share
  abbrev pub note_stake : ChainEnd Q W g → Stake AtQueue
  note_stake end = record {
    did = record idle_queue { put = chain_end_puts end; taken = chain_end_takes end };
    share = chain_end_share end;
  }

  -- the stake of the end of the chain k
  abbrev pub note_stakes : List (ChainEnd Q W g) → ℕ → Stake AtQueue
  note_stakes ends k = slice_index_or (map note_stake ends) k (no_stake idle_queue)

  -- the end of each chain has its old stake and the stake that `gained` gives for the chain
  abbrev pub ChainsGained : (ℕ → Stake AtQueue) → List (ChainEnd Q W g) → List (ChainEnd Q W g) → Type 0
  ChainsGained gained old new = note_stakes new ≡ at_each (both_stakes both_queue) (note_stakes old) gained
