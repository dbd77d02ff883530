-- The facts that a boot establishes at its end.
use Rattle.std.specs.Prelude.{◌≡◌, ◌<◌, ℕ, true, List, ◌++◌, length, flat_map, Some, IsPermutation}
use Rattle.std.specs.List.{slice_get, AllByRecursion, AllZip}
use Rattle.boot_data.specs.declared.boot_plan.BootPlan.{BootPlan}
use Rattle.boot_data.specs.declared.plan.PlannedMover.{PlannedMover}
use Rattle.boot_data.specs.declared.plan.PlannedTty.{PlannedTty}
use Rattle.boot_data.specs.declared.plan.QueueIndex.{QueueIndex}
use Rattle.boot_data.specs.declared.report.Report.{Report}
use Rattle.boot_data.specs.QueueLists.{raw_queue, line_queue, screen_queue}
use Rattle.claim_queue.specs.declared.ends.QueueEnd.{QueueEnd}
use Rattle.turn_io.specs.Accounts.{room_of}
use Rattle.boot_objects.specs.DeviceEndings.{DeviceEnded}
use Rattle.quajects.specs.declared.home.Home.{Home}
use Rattle.processor.specs.Entries.{LogEntry}
use Rattle.processor.specs.Logs.{was_shut}
use Rattle.boot_data.specs.Hearing.{Line}
use Rattle.boot_laws.specs.Agreements.{IsTty}
use Rattle.boot_laws.specs.ClosedTables.{ClosedTables, queue_at}
use Rattle.boot_laws.specs.ClosedTables as closed
use Rattle.boot_laws.specs.Endings.{Done, WorkedTogether, FreedSpare, ThreadsEnded, QueueEnded, ChainEnded, MoverEnded}
use Rattle.boot_laws.specs.Endings.{MetersEnded, home_at, device_at}
use Rattle.boot_laws.specs.Lines.{Says}
use Rattle.boot_laws.specs.Reports.{Ascend}

-- the work done; the quajects that came home, the pumps and switches first and then the cooked ttys; and the devices'
-- ends of raw queues
pub record Boot : Type 0 where
  pub done : Done
  pub homes : List Home
  pub raws : List (QueueEnd 64)

-- the ends of a queue that devices and quajects had
abbrev pub others_at : BootPlan → Boot → (index : QueueIndex) → List (QueueEnd (room_of index))
others_at plan boot index =
    device_at index (length plan.queues) boot.raws ++ flat_map (home_at index) boot.homes

-- After the threads were prepared, the processors did what their logs say. Then all objects were closed. If a log
-- reports that a queue is shut, a processor shut it. The lines heard, in order of thread and step, are in the report,
-- which says the numbers of the closed tables
pub record BootEnded (plan : BootPlan) (logs : List (List LogEntry)) (boot : Boot) (c : ClosedTables)
    (heard : List Line) (r : Report) : Type 0 where
  pub worked : WorkedTogether plan logs boot.done
  pub spare : FreedSpare plan boot.done.before
  pub threads : ThreadsEnded boot.done.in_all c
  pub queues : (index : QueueIndex) (q : closed.Queue) → queue_at c index ≡ Some q
      → QueueEnded index boot.done.by_each (others_at plan boot index) q
  pub shut_by : (index : QueueIndex) (q : closed.Queue) → queue_at c index ≡ Some q
      → AllByRecursion (λ log. was_shut log index ≡ true → 0 < (boot.done.in_all.queues index).shuts) logs
  pub chains : AllZip ChainEnded boot.homes (c.movers ++ c.ttys)
  pub movers : (mover : ℕ) (p : PlannedMover) (m : closed.Chain) → slice_get plan.movers mover ≡ Some p
      → slice_get c.movers mover ≡ Some m → MoverEnded mover p boot.done.in_all m
  pub ttys : (tty : ℕ) (t : closed.Chain) → slice_get c.ttys tty ≡ Some t
      → IsTty (raw_queue (length plan.queues) tty) (line_queue tty) (screen_queue tty) t.quaject
  pub all_raws : length boot.raws ≡ length plan.ttys
  pub devices : (tty : ℕ) (p : PlannedTty) (raw : QueueEnd 64) (d : closed.Device) → slice_get plan.ttys tty ≡ Some p
      → slice_get boot.raws tty ≡ Some raw → slice_get c.devices tty ≡ Some d → DeviceEnded p raw d
  pub meters : MetersEnded boot.done.in_all c
  pub all_heard : IsPermutation boot.done.in_all.heard heard
  pub ascend : Ascend heard
  pub says : Says plan c heard r
