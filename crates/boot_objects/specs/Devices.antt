-- The devices of a plan's ttys.
use Rattle.std.specs.Prelude.{◌≡◌, ℕ, ◌+◌, ◌<◌, List, [], length, Some}
use Rattle.std.specs.List.{slice_get}
use Rattle.boot_data.specs.declared.boot_plan.BootPlan.{BootPlan}
use Rattle.boot_data.specs.QueueLists.{raw_queue}
use Rattle.claim_queue.specs.Plain.{ClaimQueue}
use Rattle.claim_queue.specs.declared.ends.QueueEnd.{QueueEnd}
use Rattle.claim_queue.specs.Handles.{view_of}
use Rattle.proc_chain.specs.declared.quaject.Quaject.{Ghosts}
use Rattle.proc_chain.specs.declared.ends.ProcChain.{ProcChain}
use Rattle.proc_chain.specs.declared.ends.ChainEnd.{ChainEnd}
use Rattle.proc_chain.specs.Handles.{IsEndOf}
use Rattle.quajects.specs.declared.any.AnyQuaject.{AnyQuaject}
use Rattle.quajects.specs.declared.world.Queues.{Queues}
use Rattle.quajects.specs.Ports.{IsEndAt, IsUnused}
use Rattle.quajects.specs.Raws.{end_of, overruns_of}
use Rattle.spsc_line.specs.Lines.{IsLine, IsNewIn, IsNewOut}
use Rattle.turn_io.specs.Accounts.{at_one}
use Rattle.turn_io.specs.EndLists.{end_shuts, chain_end_share, chain_end_puts, chain_end_takes, IsIdle}
use Rattle.boot_data.specs.declared.plan.QueueIndex.TheVariants.{Small}
use Rattle.boot_objects.specs.declared.device.Device.{Device}
use Rattle.boot_objects.specs.Shares.{device_shares, all_shares}
use Rattle.boot_objects.specs.Stocks.{Gave, IsStock, IsChainStock, shares, chain_shares}

-- the ends of the device are ends of the queue and of the chain that it names, and its end of the chain is idle
pub record IsAtWork (queues : List (ClaimQueue 64)) (chains : List (ProcChain AnyQuaject Queues)) (device : Device)
    : Type 0 where
  pub end : IsEndAt queues device.tty.index (end_of device.tty)
  pub chain_named : device.chain < length chains
  pub chain_end : (c : ProcChain AnyQuaject Queues) → slice_get chains device.chain ≡ Some c
      → IsEndOf c device.tty.chain
  pub idle : IsIdle device.tty.chain

-- The device puts lines into small queue `raw` at an unused end, and notes into chain `chain` at an end that chained
-- and ran nothing. It has refused no byte and shut nothing. Its line has 64 places, and is empty
pub record IsDevice (queues : List (ClaimQueue 64)) (chains : List (ProcChain AnyQuaject Queues)) (raw chain : ℕ)
    (device : Device) : Type 0 where
  pub raw_is : device.tty.index ≡ raw
  pub chain_is : device.chain ≡ chain
  pub works : IsAtWork queues chains device
  pub unused : IsUnused (view_of (end_of device.tty))
  pub none_shut : end_shuts (end_of device.tty) ≡ 0
  pub none_refused : overruns_of device.tty ≡ 0
  pub none_chained : chain_end_puts device.tty.chain ≡ []
  pub none_run : chain_end_takes device.tty.chain ≡ []
  pub line : IsLine device.input device.output
  pub input : IsNewIn 64 device.input
  pub output : IsNewOut 64 device.output

-- the device is that of the tty with this number
abbrev pub IsDeviceOf : BootPlan → Queues → List (ProcChain AnyQuaject Queues) → ℕ → Device → Type 0
IsDeviceOf plan queues chains tty device =
    IsDevice queues.small.items chains (raw_queue (length plan.queues) tty) (length plan.movers + tty) device

-- there is one device for each tty of the plan, in the order of the ttys
pub record AreDevicesOf (plan : BootPlan) (queues : Queues) (chains : List (ProcChain AnyQuaject Queues))
    (devices : List Device) : Type 0 where
  pub number : length devices ≡ length plan.ttys
  pub each : (tty : ℕ) (device : Device) → slice_get devices tty ≡ Some device
      → IsDeviceOf plan queues chains tty device

module _ {g : Ghosts AnyQuaject Queues} where
  -- An idle end of the chain with this index was split off. The new end has chained and run nothing. It has a part of
  -- the share of the stock's end, and the stock's end has the rest
  pub record ChainSplitOff (chains : List (ProcChain AnyQuaject Queues)) (index : ℕ)
      (old new : List (ChainEnd AnyQuaject Queues g)) (end : ChainEnd AnyQuaject Queues g) : Type 0 where
    pub stock : IsChainStock chains new
    pub its : (c : ProcChain AnyQuaject Queues) → slice_get chains index ≡ Some c → IsEndOf c end
    pub idle : IsIdle end
    pub puts : chain_end_puts end ≡ []
    pub takes : chain_end_takes end ≡ []
    pub gave : Gave 1 (at_one 0 index (chain_end_share end)) (chain_shares old) (chain_shares new)

  -- the device has these indexes, and its ends were split off from the stocks
  pub record MadeDevice (queues : List (ClaimQueue 64)) (chains : List (ProcChain AnyQuaject Queues)) (raw chain : ℕ)
      (small small' : List (QueueEnd 64)) (ends ends' : List (ChainEnd AnyQuaject Queues g)) (device : Device)
      : Type 0 where
    pub stock : IsStock queues small'
    pub chain_stock : IsChainStock chains ends'
    pub its : IsDevice queues chains raw chain device
    pub gave : Gave 1 (λ q. (device_shares device).queues (Small q)) (shares small) (shares small')
    pub chain_gave : Gave 1 (device_shares device).chains (chain_shares ends) (chain_shares ends')

  -- these are the devices of the first `many` ttys of the plan, and their ends were split off from the stocks
  pub record MadeDevices (plan : BootPlan) (queues : Queues) (chains : List (ProcChain AnyQuaject Queues)) (many : ℕ)
      (small small' : List (QueueEnd 64)) (ends ends' : List (ChainEnd AnyQuaject Queues g)) (made : List Device)
      : Type 0 where
    pub stock : IsStock queues.small.items small'
    pub chain_stock : IsChainStock chains ends'
    pub number : length made ≡ many
    pub each : (tty : ℕ) (device : Device) → slice_get made tty ≡ Some device
        → IsDeviceOf plan queues chains tty device
    pub gave : Gave many (λ q. (all_shares device_shares made).queues (Small q)) (shares small) (shares small')
    pub chain_gave : Gave many (all_shares device_shares made).chains (chain_shares ends) (chain_shares ends')
