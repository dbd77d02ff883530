-- The objects of a plan, before any thread has started.
use Rattle.std.specs.Prelude.{◌≡◌, ℕ, ◌+◌, ◌<◌, false, List, length, Some}
use Rattle.std.specs.List.{All, slice_get}
use Rattle.boot_data.specs.declared.boot_plan.BootPlan.{BootPlan}
use Rattle.claim_queue.specs.declared.ends.QueueEnd.{QueueEnd}
use Rattle.claim_queue.specs.Handles as queues
use Rattle.proc_chain.specs.declared.quaject.Quaject.{Ghosts}
use Rattle.proc_chain.specs.declared.ends.ProcChain.{ProcChain}
use Rattle.proc_chain.specs.declared.ends.ChainEnd.{ChainEnd}
use Rattle.proc_chain.specs.Handles.{first_of}
use Rattle.quajects.specs.declared.any.AnyQuaject.{AnyQuaject}
use Rattle.quajects.specs.declared.world.Queues.{Queues}
use Rattle.meters.specs.declared.ends.Meters.{Meters}
use Rattle.meters.specs.declared.ends.MeterSeat.{MeterSeat}
use Rattle.meters.specs.Handles as meters
use Rattle.meters.specs.Rules as meter_rules
use Rattle.thread_table.specs.declared.hand.ThreadTable.{ThreadTable}
use Rattle.thread_table.specs.declared.hand.Hand.{Hand}
use Rattle.thread_table.specs.Handles as threads
use Rattle.thread_table.specs.Rules as thread_rules
use Rattle.turn_dispatch.specs.Holdings.{IsFree}
use Rattle.turn_io.specs.EndLists.{AreChainsOver}
use Rattle.processor.specs.declared.shared.Shared.{Shared}
use Rattle.processor.specs.declared.station.Parts.{Parts}
use Rattle.stations.specs.Shares.{both_shares}
use Rattle.processor.specs.Accounts as accounts
use Rattle.boot_objects.specs.declared.device.Device.{Device}
use Rattle.boot_objects.specs.Planned.{IsPlannedAt, IsReady}
use Rattle.boot_objects.specs.Devices.{AreDevicesOf}
use Rattle.boot_objects.specs.Makings.{AreQueuesOf}
use Rattle.boot_objects.specs.Stocks.{CanGive, IsStock, IsChainStock, shares, chain_shares}
use Rattle.boot_objects.specs.Shares.{device_shares, all_shares, quajects_of, opening_shares, end_shares}
use Rattle.boot_objects.specs.Shares.{AreAllEnds, AreWhole}

-- these are the quajects of the plan, each over ends of these queues that have done nothing
pub record AreQuajectsOf (plan : BootPlan) (world : Queues) (quajects : List AnyQuaject) : Type 0 where
  pub number : length quajects ≡ length plan.movers + length plan.ttys
  pub kinds : (i : ℕ) (x : AnyQuaject) → slice_get quajects i ≡ Some x → IsPlannedAt plan i x
  pub ready : All (IsReady world) quajects

-- each queue and each chain begins at 0
pub record BeginAtZero (world : Queues) (chains : List (ProcChain AnyQuaject Queues)) : Type 0 where
  pub small_begin : All (λ queue. queues.first_of queue ≡ 0) world.small.items
  pub large_begin : All (λ queue. queues.first_of queue ≡ 0) world.large.items
  pub chains_begin : All (λ chain. first_of chain ≡ 0) chains

-- these parts, with the quajects that were given to the chains and with the devices, have the whole of all objects
abbrev pub HaveAll : Shared → Parts → List Device → Type 0
HaveAll shared parts devices = AreWhole shared (both_shares (accounts.shares parts)
    (both_shares (opening_shares shared.chains.items) (all_shares device_shares devices)))

module _ {g : Ghosts AnyQuaject Queues} where
  -- the queues, chains and devices are those of the plan, with an end of each queue and chain
  pub record AreStocked (plan : BootPlan) (queues : Queues) (small : List (QueueEnd 64)) (large : List (QueueEnd 256))
      (chains : List (ProcChain AnyQuaject Queues)) (ends : List (ChainEnd AnyQuaject Queues g))
      (devices : List Device) : Type 0 where
    pub sizes : AreQueuesOf plan queues
    pub begin : BeginAtZero queues chains
    pub over : AreChainsOver queues chains
    pub small_stock : IsStock queues.small.items small
    pub large_stock : IsStock queues.large.items large
    pub chain_stock : IsChainStock chains ends
    pub quajects : AreQuajectsOf plan queues (quajects_of chains)
    pub devices_are : AreDevicesOf plan queues chains devices
    pub shares_are : AreAllEnds queues chains (both_shares (end_shares small large ends)
        (both_shares (opening_shares chains) (all_shares device_shares devices)))
    pub splits : CanGive 1000 (shares small) × CanGive 1000 (shares large) × CanGive 1000 (chain_shares ends)

-- The thread elements begin at 0, and this is their only hand. It holds no element, knows nothing else yet, and serves
-- each of the 8 processors. No element is on a processor
pub record IsFirstHand (table : ThreadTable) (hand : Hand) : Type 0 where
  pub first : threads.first_of table ≡ 0
  pub knows : threads.view_of hand ≡ thread_rules.newcomer (record { first = 0 })
  pub only : threads.IsOnlyHand hand
  pub holds_none : (element : ℕ) → thread_rules.has (threads.view_of hand) element ≡ false
  pub free : (p : ℕ) → p < 8 → IsFree p (threads.view_of hand)

-- the clock begins at 0, and this is the only seat of the meters; it has done nothing
pub record IsFirstSeat (table : Meters) (seat : MeterSeat) : Type 0 where
  pub first : meters.first_of table ≡ 0
  pub knows : meters.view_of seat ≡ meter_rules.newcomer (record { clock = 0 })
  pub only : meters.IsOnlySeat seat
