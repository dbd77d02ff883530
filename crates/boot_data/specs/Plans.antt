-- The content of a boot script, as plain data.
use Rattle.std.specs.Prelude.{ℕ, List, [], Option, Some, None}
use Rattle.std.specs.List.{slice_get}
use Rattle.event_theory.specs.declared.alarm.Alarm.{Alarm}
use Rattle.boot_data.specs.declared.plan.PlannedQueue.{PlannedQueue}
use Rattle.boot_data.specs.declared.plan.PlannedTty.{PlannedTty}
use Rattle.boot_data.specs.declared.plan.PlannedMover.{PlannedMover}
use Rattle.boot_data.specs.declared.plan.PlannedThread.{PlannedThread}
use Rattle.boot_data.specs.declared.plan.Step.{Step}

-- the content of a boot script, each list in the order of the script
pub record Plan : Type 0 where
  pub queues : List PlannedQueue
  pub ttys : List PlannedTty
  pub movers : List PlannedMover
  pub gauges : List (List ℕ)
  pub alarms : List Alarm
  pub threads : List PlannedThread

-- the program of a thread; it is empty if there is no thread
abbrev pub steps_in : Option PlannedThread → List Step
steps_in None = []
steps_in (Some thread) = thread.steps

-- the program of the thread with this number; it is empty if there is no such thread
abbrev pub steps_at : List PlannedThread → ℕ → List Step
steps_at threads thread = steps_in (slice_get threads thread)
