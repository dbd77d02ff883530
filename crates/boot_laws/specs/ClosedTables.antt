-- Results of closing a boot's tables, as plain data.
use Rattle.std.specs.Prelude.{ℕ, List, Option}
use Rattle.std.specs.List.{slice_get}
use Rattle.boot_data.specs.declared.plan.QueueIndex.{QueueIndex}
use Rattle.turn_io.specs.Accounts.{by_index}
use Rattle.event_theory.specs.declared.alarm.Alarm.{Alarm}
use Rattle.thread_table.specs.declared.places.Place.{Place}
use Rattle.quajects.specs.declared.any.AnyQuaject.{AnyQuaject}
pub use Rattle.boot_objects.specs.DeviceEndings.{Device}

-- A queue: the items put, in the order of their claims, and the number of items taken; the lines that each processor
-- put and took, in the order of its steps; the lines that quajects and devices put and took
pub record Queue : Type 0 where
  pub items : List ℕ
  pub taken : ℕ
  pub put_by : List (List (List ℕ))
  pub put_by_others : List (List ℕ)
  pub taken_by : List (List (List ℕ))
  pub taken_by_others : List (List ℕ)

-- a thread: the place of its element, its steps done, its pending signals and the signals that were shown to it
pub record Thread : Type 0 where
  pub place : Place
  pub steps : ℕ
  pub pending : ℕ
  pub shown : ℕ

-- a chain: the quaject that came home, and how many notes were left
pub record Chain : Type 0 where
  pub quaject : AnyQuaject
  pub left : ℕ

-- the small and large queues, the threads, the pumps and switches, the cooked ttys and their devices, the gauges, and
-- the alarms fired and left
pub record ClosedTables : Type 0 where
  pub small : List Queue
  pub large : List Queue
  pub threads : List Thread
  pub movers : List Chain
  pub ttys : List Chain
  pub devices : List Device
  pub gauges : List ℕ
  pub fired : List Alarm
  pub left : List Alarm

-- the queue with this index, if there is one
abbrev pub queue_at : ClosedTables → QueueIndex → Option Queue
queue_at c = by_index (slice_get c.small) (slice_get c.large)
