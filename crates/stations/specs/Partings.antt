-- The results of splitting a station and of joining two.
use Rattle.std.specs.Prelude.{◌≡◌, ◌<◌, ◌||◌, ℕ, List, [], ◌∷◌, length, slice_index_or, vec_capacity}
use Rattle.std.specs.List.{All}
use Rattle.turn_io.specs.EndLists.{IsChainDivisible}
use Rattle.meters.specs.Handles as seats
use Rattle.meters.specs.Endings as seat_ends
use Rattle.meters.specs.Own.{DidSplit, DidBoth}
use Rattle.thread_table.specs.Answers.{is_in}
use Rattle.thread_table.specs.Handles as threads
use Rattle.thread_table.specs.Endings as hands
use Rattle.processor.specs.declared.shared.Shared.{Shared}
use Rattle.processor.specs.declared.station.Parts.{Parts}
use Rattle.processor.specs.Programs.{hear_count, longest_line}
use Rattle.stations.specs.declared.station_splitting.Lists.{Lists}
use Rattle.stations.specs.Splits as splits
use Rattle.stations.specs.Splits.{AreQueuesDivisible, AreQueuesJoined, AreQueuesSplit}

-- each end has two parts or more of its object
pub record AreDivisible (parts : Parts) : Type 0 where
  pub hand : threads.IsDivisible parts.hand
  pub queues : AreQueuesDivisible parts.queues
  pub chains : All IsChainDivisible parts.chains.items
  pub meters : seats.IsDivisible parts.meters

-- the lists are empty, with room for exactly an end of each object and each line that can be heard, at its greatest
-- length
pub record HaveRoom (shared : Shared) (lists : Lists) : Type 0 where
  pub small : (lists.queues.small.items ≡ []) × (vec_capacity lists.queues.small ≡ length shared.queues.small.items)
  pub large : (lists.queues.large.items ≡ []) × (vec_capacity lists.queues.large ≡ length shared.queues.large.items)
  pub chains : (lists.chains.items ≡ []) × (vec_capacity lists.chains ≡ length shared.chains.items)
  pub heard : (lists.heard.lines ≡ []) × (lists.heard.room ≡ hear_count shared.plan)
      × (lists.heard.longest ≡ longest_line shared.plan)

-- Each end gave a part to a new end, and the hand gave the processors of the mask. The lines heard and the signals are
-- unchanged
pub record AreSplit (processors : ℕ) (old new born : Parts) : Type 0 where
  pub hand : hands.SplitBy processors (threads.view_of old.hand) (threads.view_of new.hand)
  pub born_hand : hands.IsNewEnd processors (threads.view_of old.hand) (threads.view_of new.hand)
      (threads.view_of born.hand)
  pub queues : AreQueuesSplit old.queues new.queues born.queues
  pub chains : splits.AreChainsSplit old.chains.items new.chains.items born.chains.items
  pub meters : seat_ends.SplitBy (seats.view_of old.meters) (seats.view_of new.meters)
  pub born_meters : seat_ends.IsNewEnd (seats.view_of old.meters) (seats.view_of new.meters)
      (seats.view_of born.meters)
  pub own : DidSplit (seats.view_of old.meters) (seats.view_of new.meters)
  pub heard : new.heard ≡ old.heard
  pub signals : new.signals ≡ old.signals

-- the masks of the elements have the signals of both
abbrev pub HaveBoth : List ℕ → List ℕ → List ℕ → Type 0
HaveBoth a b both = (element signal : ℕ) → element < 64 → signal < 16
    → is_in (slice_index_or both element 0) signal
    ≡ (is_in (slice_index_or a element 0) signal || is_in (slice_index_or b element 0) signal)

-- Each end took in the other station's end at its place, and has what both had. The signals are those of both. The
-- lines heard are unchanged
pub record AreJoined (old other new : Parts) : Type 0 where
  pub hand : hands.JoinedBy (threads.view_of old.hand) (threads.view_of other.hand) (threads.view_of new.hand)
  pub queues : AreQueuesJoined old.queues other.queues new.queues
  pub chains : splits.AreChainsJoined old.chains.items other.chains.items new.chains.items
  pub meters : seat_ends.JoinedBy (seats.view_of old.meters) (seats.view_of other.meters) (seats.view_of new.meters)
  pub own : DidBoth (seats.view_of old.meters) (seats.view_of other.meters) (seats.view_of new.meters)
  pub heard : new.heard ≡ old.heard
  pub signals : HaveBoth old.signals other.signals new.signals

-- each of the stations was joined to the first, in this order
abbrev pub AllJoined : Parts → List Parts → Parts → Type 0
AllJoined first [] last = last ≡ first
AllJoined first (station ∷ stations) last =
    (next : Parts) × AreJoined first station next × AllJoined next stations last
