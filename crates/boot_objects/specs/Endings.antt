-- The results of closing all objects.
use Rattle.std.specs.Prelude.{◌≡◌, ◌<◌, ℕ, false}
use Rattle.std.specs.List.{All}
use Rattle.boot_objects.specs.declared.closing.all.TornDown.{TornDown}
use Rattle.boot_objects.specs.ClosedQueues.{HaveClosed}
use Rattle.boot_objects.specs.Comings.{small_ports, large_ports}
use Rattle.boot_objects.specs.Placings.{NoneHeld}
use Rattle.boot_objects.specs.Retirals.{HaveRetired, IsFew}
use Rattle.meters.specs.Closings as metering
use Rattle.meters.specs.Handles as seats
use Rattle.processor.specs.declared.shared.Shared.{Shared}
use Rattle.processor.specs.declared.station.Parts.{Parts}
use Rattle.processor.specs.Stations.{ArePartsOf}
use Rattle.quajects.specs.Homes.{HasHome, homes_in}
use Rattle.thread_table.specs.Closings.{ClosedNow}
use Rattle.thread_table.specs.Handles.{view_of, call_of}
use Rattle.thread_table.specs.Rules.{has}

-- The chains were closed, and their quajects came home with their numbers. The queues' ends gained the quajects' ends.
-- Then the queues, the thread table and the meters were closed, each by its last end, one of these parts. If the hand
-- holds no element, none is held at the close. All else is as it was
pub record AllClosed (shared : Shared) (parts : Parts) (ended : TornDown) : Type 0 where
  pub its : ArePartsOf shared parts
  pub last : ended.last.value ≡ parts
  pub homes : HaveRetired shared.chains.items parts.chains.items (homes_in ended.counts.items)
  pub few : All IsFew (homes_in ended.counts.items)
  pub counts : All HasHome ended.counts.items
  pub small : HaveClosed (small_ports (homes_in ended.counts.items)) shared.queues.small.items parts.queues.small.items
      ended.ends.value.small.items ended.small.items
  pub large : HaveClosed (large_ports (homes_in ended.counts.items)) shared.queues.large.items parts.queues.large.items
      ended.ends.value.large.items ended.large.items
  pub threads : ClosedNow (call_of parts.hand) (view_of parts.hand) ended.threads.places ended.threads.pcs
      ended.threads.pending ended.threads.stops
  pub put : ((e : ℕ) → e < 64 → has (view_of parts.hand) e ≡ false) → NoneHeld ended.threads.places
  pub meters : metering.ClosedNow (seats.first_of shared.meters) (seats.view_of parts.meters) ended.meters.gauges
      ended.meters.clock ended.meters.alarms.items
  pub rest : (ended.heard ≡ parts.heard) × (ended.signals ≡ parts.signals) × (ended.plan ≡ shared.plan)
