-- The objects of a boot before its threads start.
use Rattle.std.specs.Prelude.{◌≡◌, ◌+◌, ◌<◌, ◌≤◌, ℕ, List, [], map, length, vec_capacity}
use Rattle.std.specs.List.{All}
use Rattle.boot_data.specs.declared.boot_plan.BootPlan.{BootPlan}
use Rattle.boot_objects.specs.Rooms as closing
use Rattle.turn_dispatch.specs.Holdings.{IsFree}
use Rattle.boot_objects.specs.declared.device.Device.{Device}
use Rattle.boot_objects.specs.Devices.{AreDevicesOf}
use Rattle.boot_objects.specs.Objects.{AreQuajectsOf, HaveAll, IsFirstHand, IsFirstSeat}
use Rattle.boot_objects.specs.declared.making.Objects.{Objects}
use Rattle.boot_objects.specs.Shares.{quajects_of}
use Rattle.processor.specs.declared.shared.Shared.{Shared}
use Rattle.processor.specs.declared.station.Parts.{Parts}
use Rattle.boot_objects.specs.Stocks.{CanGive, shares, chain_shares}
use Rattle.processor.specs.Accounts.{account, nothing}
use Rattle.processor.specs.Stations.{ArePartsOf, IsUnused}
use Rattle.processor.specs.Preparing.{IsPrepared}
use Rattle.boot_report.specs.Rooms as reporting
use Rattle.thread_table.specs.Handles.{view_of}
use Rattle.boot_threads.specs.declared.work.Work.{Work}
use Rattle.boot_threads.specs.Readiness.{AreServing, HasPrepared, input_of}
use Rattle.boot_threads.specs.Stationings.{NoneOn, ArePosted}
use Rattle.boot_threads.specs.Works.{MayWork}
use Rattle.synth_kernel.specs.declared.ready.Ready.{Ready}
use Rattle.synth_kernel.specs.declared.ready.Room.{Room}

-- The lists are empty. They have room for the results of so many processors and of the plan's devices, for the answers
-- of closing all, and for the report, and for no more
pub record HasPlaces {G : Type 0} (shared : Shared) (processors : ℕ) (room : Room G) : Type 0 where
  pub backs : (room.backs.items ≡ []) × (vec_capacity room.backs ≡ processors + length shared.plan.ttys)
  pub typed : (room.typed.items ≡ []) × (vec_capacity room.typed ≡ length shared.plan.ttys)
  pub processed : (room.processed.items ≡ []) × (vec_capacity room.processed ≡ processors)
  pub served : (room.served.items ≡ []) × (vec_capacity room.served ≡ length shared.plan.ttys)
  pub ttys : (room.ttys.items ≡ []) × (vec_capacity room.ttys ≡ length shared.plan.ttys)
  pub heards : (room.heards.items ≡ []) × (vec_capacity room.heards ≡ processors)
  pub gates : (room.gates.items ≡ []) × (vec_capacity room.gates ≡ processors)
  pub reported : (room.reported.items ≡ []) × (vec_capacity room.reported ≡ length shared.plan.ttys)
  pub answers : closing.HaveRoom shared room.answers
  pub report : reporting.HasAllRoom shared.plan room.report

-- These are all objects of their plan, as they were made. The first station is that of its shared objects, has done
-- nothing, and can give of each share. It, the devices and the quajects have all shares
pub record AreMade (objects : Objects) : Type 0 where
  pub parts : ArePartsOf objects.shared objects.station.parts
  pub unused : IsUnused objects.station.parts
  pub hand : IsFirstHand objects.shared.threads objects.station.parts.hand
  pub seat : IsFirstSeat objects.shared.meters objects.station.parts.meters
  pub effect : account objects.station.parts ≡ nothing
  pub quajects : AreQuajectsOf objects.shared.plan objects.shared.queues (quajects_of objects.shared.chains.items)
  pub devices : AreDevicesOf objects.shared.plan objects.shared.queues objects.shared.chains.items objects.devices.items
  pub splits : CanGive 1000 (shares objects.station.parts.queues.small.items)
      × CanGive 1000 (shares objects.station.parts.queues.large.items)
      × CanGive 1000 (chain_shares objects.station.parts.chains.items)
  pub whole : HaveAll objects.shared objects.station.parts objects.devices.items

-- All objects of the plan were made; the first station, the devices and the quajects have all their shares. The first
-- station was prepared, and gave each processor a station of its own. Each processor and each device has its work,
-- which may be done. The lists have room
pub record IsReady {G : Type 0} (plan : BootPlan) (turns : ℕ) (gates : List G) (ready : Ready G) : Type 0 where
  pub plan_is : ready.shared.plan ≡ plan
  pub quajects : AreQuajectsOf ready.shared.plan ready.shared.queues (quajects_of ready.shared.chains.items)
  pub devices : List Device
  pub devices_are : AreDevicesOf ready.shared.plan ready.shared.queues ready.shared.chains.items devices
  pub made : Parts
  pub hand : IsFirstHand ready.shared.threads made.hand
  pub seat : IsFirstSeat ready.shared.meters made.meters
  pub whole : HaveAll ready.shared made devices
  pub first : Parts
  pub first_is : HasPrepared ready.shared.plan made first
  pub posts : List (Work G)
  pub posted : ArePosted ready.shared 0 turns gates first ready.station.parts posts
  pub works : AreServing ready.shared.plan.ttys devices posts ready.works.items
  pub may : All (MayWork ready.shared) ready.works.items
  pub number : length ready.works.items ≡ length gates + length ready.shared.plan.ttys
  pub inputs : ready.inputs.items ≡ map input_of devices
  pub parts : ArePartsOf ready.shared ready.station.parts
  pub prepared : IsPrepared ready.shared.plan ready.station.parts
  pub none_on : NoneOn ready.station.parts
  pub free : (k : ℕ) → length gates ≤ k → k < 8 → IsFree k (view_of ready.station.parts.hand)
  pub room : HasPlaces ready.shared (length gates) ready.room

-- all is ready for so many processors, with some gate for each and some number of turns
abbrev pub IsReadyFor : {G : Type 0} → ℕ → Ready G → Type 0
IsReadyFor {G} processors ready =
    (turns : ℕ) × (gates : List G) × (processors ≡ length gates) × IsReady ready.shared.plan turns gates ready
