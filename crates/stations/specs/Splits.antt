-- The results of splitting and of joining all ends of a list.
use Rattle.std.specs.Prelude.{◌≡◌, ◌≤◌, ℕ, true, List, [], ◌∷◌, length, vec_capacity}
use Rattle.std.specs.List.{All}
use Rattle.claim_queue.specs.declared.ends.QueueEnd.{QueueEnd}
use Rattle.claim_queue.specs.Handles.{view_of}
use Rattle.claim_queue.specs.Endings as queues
use Rattle.proc_chain.specs.declared.ends.ChainEnd.{ChainEnd}
use Rattle.proc_chain.specs.declared.quaject.Quaject.{Ghosts}
use Rattle.proc_chain.specs.Handles as chain_ends
use Rattle.proc_chain.specs.Endings as chains
use Rattle.quajects.specs.declared.world.Queues.{Queues}
use Rattle.turn_io.specs.declared.queue_ends.QueueEnds.{QueueEnds}
use Rattle.turn_io.specs.EndLists.{HasRaised, IsDivisible, knows_shut_at}

-- three lists have the same length, and R holds of their elements at each place
abbrev pub AllThree : {A B C : Type 0} → (A → B → C → Type 0) → List A → List B → List C → Type 0
AllThree R [] [] [] = Unit {0}
AllThree R (x ∷ xs) (y ∷ ys) (z ∷ zs) = R x y z × AllThree R xs ys zs
AllThree R _ _ _ = ⊥

module _ {n : ℕ} where
  -- the end gave a part of its share to a new end, which has nothing else
  abbrev pub IsSplit : QueueEnd n → QueueEnd n → QueueEnd n → Type 0
  IsSplit old new born =
      queues.SplitBy (view_of old) (view_of new) × queues.IsNewEnd (view_of old) (view_of new) (view_of born)

  -- the end took in the other, and has what both had
  abbrev pub IsJoined : QueueEnd n → QueueEnd n → QueueEnd n → Type 0
  IsJoined old new other = queues.JoinedBy (view_of old) (view_of other) (view_of new)

  -- Each end was split. If the old ends had raised all that they claimed, they still have, and they still know which
  -- queues are shut. The new ends have raised all, because they put nothing
  pub record AreSplit (old new born : List (QueueEnd n)) : Type 0 where
    pub each : AllThree IsSplit old new born
    pub raised : All HasRaised old → All HasRaised new
    pub known : (q : ℕ) → knows_shut_at old q ≡ true → knows_shut_at new q ≡ true
    pub born_raised : All HasRaised born

  -- Each end was joined to the end at its place. If both lists had raised all that they claimed, the result has. It
  -- knows a queue to be shut if either list knew it
  pub record AreJoined (old others new : List (QueueEnd n)) : Type 0 where
    pub each : AllThree IsJoined old new others
    pub raised : All HasRaised old → All HasRaised others → All HasRaised new
    pub known : (q : ℕ) → knows_shut_at old q ≡ true → knows_shut_at new q ≡ true
    pub others_known : (q : ℕ) → knows_shut_at others q ≡ true → knows_shut_at new q ≡ true

module _ {Q W : Type 0} {g : Ghosts Q W} where
  -- the end gave a part of its share to a new end, which has nothing else
  abbrev pub IsChainSplit : ChainEnd Q W g → ChainEnd Q W g → ChainEnd Q W g → Type 0
  IsChainSplit old new born = chains.SplitBy (chain_ends.view_of old) (chain_ends.view_of new)
      × chains.IsNewEnd (chain_ends.view_of old) (chain_ends.view_of new) (chain_ends.view_of born)

  -- the end took in the other, and has what both had
  abbrev pub IsChainJoined : ChainEnd Q W g → ChainEnd Q W g → ChainEnd Q W g → Type 0
  IsChainJoined old new other =
      chains.JoinedBy (chain_ends.view_of old) (chain_ends.view_of other) (chain_ends.view_of new)

  -- each end was split
  abbrev pub AreChainsSplit : List (ChainEnd Q W g) → List (ChainEnd Q W g) → List (ChainEnd Q W g) → Type 0
  AreChainsSplit old new born = AllThree IsChainSplit old new born

  -- each end was joined to the one at its place
  abbrev pub AreChainsJoined : List (ChainEnd Q W g) → List (ChainEnd Q W g) → List (ChainEnd Q W g) → Type 0
  AreChainsJoined old others new = AllThree IsChainJoined old new others

-- each end has two parts or more of its queue
pub record AreQueuesDivisible (ends : QueueEnds) : Type 0 where
  pub small : All IsDivisible ends.small.items
  pub large : All IsDivisible ends.large.items

-- the lists are empty, with room for an end of each queue
pub record HaveRoomFor (queues : Queues) (ends : QueueEnds) : Type 0 where
  pub small : (ends.small.items ≡ []) × (length queues.small.items ≤ vec_capacity ends.small)
  pub large : (ends.large.items ≡ []) × (length queues.large.items ≤ vec_capacity ends.large)

-- each end gave a part of its share to a new end
pub record AreQueuesSplit (old new born : QueueEnds) : Type 0 where
  pub small : AreSplit old.small.items new.small.items born.small.items
  pub large : AreSplit old.large.items new.large.items born.large.items

-- each end was joined to the end at its place
pub record AreQueuesJoined (old others new : QueueEnds) : Type 0 where
  pub small : AreJoined old.small.items others.small.items new.small.items
  pub large : AreJoined old.large.items others.large.items new.large.items
