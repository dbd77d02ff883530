-- The parts of a station.
use Rattle.std.specs.Prelude.{◌≡◌, ℕ, List, [], ◌∷◌}
use Rattle.std.specs.List.{repeat}
use Rattle.turn_io.specs.EndLists.{AreChainEndsOf, AreSameChainEnds}
use Rattle.turn_io.specs.QueueEnds.{AreQueueEndsOf, AreSameQueueEnds}
use Rattle.meters.specs.Handles as meters
use Rattle.thread_table.specs.Handles as threads
use Rattle.processor.specs.declared.shared.Shared.{Shared}
use Rattle.processor.specs.declared.station.Parts.{Parts}

-- the masks of 64 elements, with no signal
abbrev pub no_signals : List ℕ
no_signals = repeat 64 (0 ∷ [])

-- nothing was heard, and no signal was delivered
pub record IsUnused (parts : Parts) : Type 0 where
  pub heard : parts.heard.lines ≡ []
  pub signals : parts.signals ≡ no_signals

-- each end is an end of the shared object at its place, and no end of a chain has a Turn
pub record ArePartsOf (shared : Shared) (parts : Parts) : Type 0 where
  pub hand : threads.IsHandOf shared.threads parts.hand
  pub queues : AreQueueEndsOf shared.queues parts.queues
  pub chains : AreChainEndsOf shared.chains.items parts.chains.items
  pub meters : meters.IsSeatOf shared.meters parts.meters

-- both have the same ends of the same objects
pub record AreSameParts (old new : Parts) : Type 0 where
  pub hand : threads.IsSameHand old.hand new.hand
  pub queues : AreSameQueueEnds old.queues new.queues
  pub chains : AreSameChainEnds old.chains.items new.chains.items
  pub meters : meters.IsSameSeat old.meters new.meters
