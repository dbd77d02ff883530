-- The results of each call that makes a quaject or a chain, and the ends that remain in the stock it splits from.
use Rattle.std.specs.Prelude.{◌≡◌, ℕ, ◌+◌, ◌*◌, ◌<◌, List, [], ◌∷◌, map, length, Option, Some, None}
use Rattle.std.specs.List.{All, slice_get}
use Rattle.table_theory.specs.Sharing.{the_whole}
use Rattle.boot_data.specs.declared.boot_plan.BootPlan.{BootPlan}
use Rattle.boot_data.specs.declared.plan.Mover.{Mover}
use Rattle.boot_data.specs.declared.plan.Mover.TheVariants as mover
use Rattle.boot_data.specs.declared.plan.Way.{Way}
use Rattle.boot_data.specs.QueueLists.{raw_queue, line_queue}
use Rattle.claim_queue.specs.Plain.{ClaimQueue}
use Rattle.claim_queue.specs.declared.ends.QueueEnd.{QueueEnd}
use Rattle.claim_queue.specs.Handles as claims
use Rattle.claim_queue.specs.Handles.{view_of}
use Rattle.proc_chain.specs.declared.quaject.Quaject.{Ghosts}
use Rattle.proc_chain.specs.declared.ends.ProcChain.{ProcChain}
use Rattle.proc_chain.specs.declared.ends.ChainEnd.{ChainEnd}
use Rattle.proc_chain.specs.Handles.{opening_of, world_of, first_of}
use Rattle.quajects.specs.declared.any.AnyQuaject.{AnyQuaject}
use Rattle.quajects.specs.declared.world.Queues.{Queues}
use Rattle.quajects.specs.Ports.{IsEndAt, IsUnused}
use Rattle.quajects.specs.Routes.{Given, given_key, given_index, IsGivenUnused, IsGivenFit}
use Rattle.boot_data.specs.declared.plan.QueueIndex.TheVariants.{Small, Large}
use Rattle.turn_io.specs.Accounts.{at_one}
use Rattle.turn_io.specs.EndLists.{end_share, end_shuts, chain_end_share}
use Rattle.turn_io.specs.EndLists.{AreChainsOver}
use Rattle.boot_objects.specs.Stocks.{Gave, IsStock, IsChainStock, IsIdleChainEnd, shares}
use Rattle.boot_objects.specs.Shares.{quaject_shares, all_shares}
use Rattle.boot_objects.specs.Planned.{IsReady, IsMover, IsPlannedAt, four_ways, way_key, way_to}

-- the ways lead to queues among so many, and no two of them have the same key
pub record AreWays (count : ℕ) (ways : List Way) : Type 0 where
  pub there : (i : ℕ) (way : Way) → slice_get ways i ≡ Some way → way.to < count
  pub apart : (i j : ℕ) (a b : Way) → slice_get ways i ≡ Some a → slice_get ways j ≡ Some b → a.key ≡ b.key → i ≡ j

-- the queues that a mover of a plan names are among the first `count` queues
abbrev pub IsThere : ℕ → Mover → Type 0
IsThere count (mover.Pump from to) = (from < count) × (to < count)
IsThere count (mover.Switch from other ways) = (from < count) × (other < count) × AreWays count ways

-- An unused end of the queue with this index was split off. The new end has shut nothing. It has a part of the share of
-- the stock's end, and the stock's end has the rest
pub record SplitOff {n : ℕ} (queues : List (ClaimQueue n)) (index : ℕ) (old new : List (QueueEnd n))
    (end : QueueEnd n) : Type 0 where
  pub stock : IsStock queues new
  pub its : IsEndAt queues index end
  pub unused : IsUnused (view_of end)
  pub shuts : end_shuts end ≡ 0
  pub gave : Gave 1 (at_one 0 index (end_share end)) (shares old) (shares new)

-- the share of the small queue q that the end of a way has
abbrev pub given_share : Given → ℕ → ℕ
given_share None q = 0
given_share (Some given) q = at_one 0 given.1 (end_share given.2) q

-- the share of the small queue q that the ends of these ways have together
abbrev pub givens_share : List Given → ℕ → ℕ
givens_share [] q = 0
givens_share (given ∷ rest) q = given_share given q + givens_share rest q

-- the end of a way has not shut its queue
abbrev pub IsGivenOpen : Given → Type 0
IsGivenOpen None = Unit {0}
IsGivenOpen (Some given) = end_shuts given.2 ≡ 0

-- the way is the plan's, with a split-off end of its queue that has done nothing; if the plan has none, none was made
pub record GaveWay (world : Queues) (way : Option Way) (old new : List (QueueEnd 64)) (given : Given) : Type 0 where
  pub stock : IsStock world.small.items new
  pub key : given_key given ≡ way_key way
  pub index : given_index given ≡ way_to way
  pub unused : IsGivenUnused given
  pub none_shut : IsGivenOpen given
  pub fit : IsGivenFit world.small.items given
  pub gave : Gave 1 (given_share given) (shares old) (shares new)

-- the first four ways of a switch are the plan's, each with an end of its queue that was split off and has done nothing
pub record GaveWays (world : Queues) (ways : List Way) (old new : List (QueueEnd 64)) (given : List Given)
    : Type 0 where
  pub stock : IsStock world.small.items new
  pub keys : map given_key given ≡ map way_key (four_ways ways)
  pub indexes : map given_index given ≡ map way_to (four_ways ways)
  pub unused : All IsGivenUnused given
  pub none_shut : All IsGivenOpen given
  pub fit : All (IsGivenFit world.small.items) given
  pub gave : Gave 4 (givens_share given) (shares old) (shares new)

-- the quaject is the pump or switch of the plan, over ends that were split off and have done nothing
pub record MadeMover (world : Queues) (mover : Mover) (old new : List (QueueEnd 64)) (quaject : AnyQuaject)
    : Type 0 where
  pub stock : IsStock world.small.items new
  pub kind : IsMover mover quaject
  pub ready : IsReady world quaject
  pub gave : Gave 6 (λ q. (quaject_shares quaject).queues (Small q)) (shares old) (shares new)

-- there are as many queues as the plan asks for: its queues and pipes, and three for each tty
pub record AreQueuesOf (plan : BootPlan) (queues : Queues) : Type 0 where
  pub small : length queues.small.items ≡ raw_queue (length plan.queues) (length plan.ttys)
  pub large : length queues.large.items ≡ line_queue (length plan.ttys)

-- the quaject is of this kind, over split-off ends that have done nothing; at most so many splits give its shares
pub record MadeQuaject (world : Queues) (IsKind : AnyQuaject → Type 0) (small_splits large_splits : ℕ)
    (small small' : List (QueueEnd 64)) (large large' : List (QueueEnd 256)) (quaject : AnyQuaject) : Type 0 where
  pub small_stock : IsStock world.small.items small'
  pub large_stock : IsStock world.large.items large'
  pub kind : IsKind quaject
  pub ready : IsReady world quaject
  pub small_gave : Gave small_splits (λ q. (quaject_shares quaject).queues (Small q)) (shares small) (shares small')
  pub large_gave : Gave large_splits (λ q. (quaject_shares quaject).queues (Large q)) (shares large) (shares large')

-- these are the first `many` quajects of the plan, over ends that were split off and have done nothing
pub record MadeQuajects (world : Queues) (plan : BootPlan) (many : ℕ) (small small' : List (QueueEnd 64))
    (large large' : List (QueueEnd 256)) (made : List AnyQuaject) : Type 0 where
  pub small_stock : IsStock world.small.items small'
  pub large_stock : IsStock world.large.items large'
  pub number : length made ≡ many
  pub kinds : (i : ℕ) (x : AnyQuaject) → slice_get made i ≡ Some x → IsPlannedAt plan i x
  pub ready : All (IsReady world) made
  pub small_gave : Gave (many * 6) (λ q. (all_shares quaject_shares made).queues (Small q)) (shares small)
      (shares small')
  pub large_gave : Gave (many * 6) (λ q. (all_shares quaject_shares made).queues (Large q)) (shares large)
      (shares large')

module _ {g : Ghosts AnyQuaject Queues} where
  -- the chain begins at 0 and has this quaject; `end` is its only end, and has done nothing
  pub record MadeChain (world : Queues) (quaject : AnyQuaject) (chain : ProcChain AnyQuaject Queues)
      (end : ChainEnd AnyQuaject Queues g) : Type 0 where
    pub opening : opening_of chain ≡ quaject
    pub over : world_of chain ≡ world
    pub first : first_of chain ≡ 0
    pub stock : IsIdleChainEnd chain end
    pub whole : chain_end_share end ≡ the_whole

  -- the chains begin at 0 and have these quajects, in their order; these are their only ends, and have done nothing
  pub record MadeChains (world : Queues) (quajects : List AnyQuaject) (chains : List (ProcChain AnyQuaject Queues))
      (ends : List (ChainEnd AnyQuaject Queues g)) : Type 0 where
    pub openings : map opening_of chains ≡ quajects
    pub over : AreChainsOver world chains
    pub firsts : All (λ chain. first_of chain ≡ 0) chains
    pub stock : IsChainStock chains ends
    pub whole : All (λ end. chain_end_share end ≡ the_whole) ends

-- the queues that the plan asks for begin at 0; these are their only ends, and have done nothing
pub record NewQueues (plan : BootPlan) (queues : Queues) (small : List (QueueEnd 64)) (large : List (QueueEnd 256))
    : Type 0 where
  pub sizes : AreQueuesOf plan queues
  pub small_stock : IsStock queues.small.items small
  pub large_stock : IsStock queues.large.items large
  pub small_whole : All (λ end. end_share end ≡ the_whole) small
  pub large_whole : All (λ end. end_share end ≡ the_whole) large
  pub small_firsts : All (λ queue. claims.first_of queue ≡ 0) queues.small.items
  pub large_firsts : All (λ queue. claims.first_of queue ≡ 0) queues.large.items
