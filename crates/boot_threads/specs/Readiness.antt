-- The objects of a boot before its threads start.
use Rattle.std.specs.Prelude.{◌≡◌, List, [], ◌∷◌, length}
use Rattle.boot_data.specs.declared.boot_plan.BootPlan.{BootPlan}
use Rattle.boot_data.specs.declared.plan.PlannedTty.{PlannedTty}
use Rattle.stations.specs.Splits.{AllThree}
use Rattle.meters.specs.Handles as seats
use Rattle.boot_objects.specs.declared.device.Device.{Device}
use Rattle.processor.specs.declared.station.Parts.{Parts}
use Rattle.spsc_line.specs.declared.line_in.LineIn.{LineIn}
use Rattle.thread_table.specs.Handles as threads
use Rattle.boot_threads.specs.declared.work.Work.{Work}
use Rattle.boot_threads.specs.declared.work.Work.TheVariants as works
use Rattle.boot_threads.specs.Alarms.{DidSetAll}
use Rattle.boot_threads.specs.Elements.{Prepared}

-- The station's hand made an element ready for each thread of the plan, and freed the others. Its seat set the plan's
-- alarms. All other parts are as they were
pub record HasPrepared (plan : BootPlan) (old new : Parts) : Type 0 where
  pub hand : Prepared (threads.call_of old.hand) (length plan.threads) (threads.view_of old.hand)
      (threads.view_of new.hand)
  pub alarms : DidSetAll plan.alarms (seats.view_of old.meters) (seats.view_of new.meters)
  pub same : threads.IsSameHand old.hand new.hand × seats.IsSameSeat old.meters new.meters
  pub rest : new ≡ record old { hand = new.hand; meters = new.meters }

-- the end of a device's line at which bytes are typed
abbrev pub input_of : Device → LineIn
input_of device = device.input

module _ {G : Type 0} where
  -- the work is to serve this tty's device, until it has popped as many bytes as the plan types
  abbrev pub IsServing : PlannedTty → Device → Work G → Type 0
  IsServing tty device work = work ≡ works.Serve device.chain device.output device.tty (length tty.typed)

  -- these works, followed by the work of each device, in the order of the devices, are the new works
  abbrev pub AreServing : List PlannedTty → List Device → List (Work G) → List (Work G) → Type 0
  AreServing ttys devices [] new = AllThree IsServing ttys devices new
  AreServing ttys devices (work ∷ old) [] = ⊥
  AreServing ttys devices (work ∷ old) (work' ∷ new) = (work' ≡ work) × AreServing ttys devices old new
