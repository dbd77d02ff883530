-- The report of a boot, and its agreement with the plan, the closed tables and the work of the processors.
use Rattle.std.specs.Prelude.{◌≡◌, ◌⊎◌, ◌<◌, ◌≤◌, ℕ, List, Some, flat_map}
use Rattle.std.specs.Prelude.{IsPermutation, length, ◌++◌}
use Rattle.std.specs.List.{slice_get, AllByRecursion}
use Rattle.boot_data.specs.declared.boot_plan.BootPlan.{BootPlan}
use Rattle.boot_data.specs.declared.plan.PlannedMover.{PlannedMover}
use Rattle.boot_data.specs.declared.plan.PlannedTty.{PlannedTty}
use Rattle.boot_data.specs.declared.report.Report.{Report}
use Rattle.boot_data.specs.declared.plan.QueueIndex.{QueueIndex}
use Rattle.boot_data.specs.declared.plan.QueueIndex.TheVariants.{Small, Large}
use Rattle.boot_data.specs.QueueLists.{raw_queue}
use Rattle.processor.specs.Entries.{LogEntry, FollowsPlan}
use Rattle.boot_data.specs.Hearing.{Line}
use Rattle.boot_laws.specs.Agreements.{ThreadAgrees, QueueAgrees, taken_from, put_in, TtyAgrees}
use Rattle.boot_laws.specs.Agreements.{MoverAgrees, GaugesAgree, AlarmsAgree}
use Rattle.boot_laws.specs.ClosedTables.{ClosedTables, queue_at}
use Rattle.boot_laws.specs.ClosedTables as closed
use Rattle.boot_laws.specs.Lines.{Says}
use Rattle.boot_laws.specs.Saying.{IsLeftOpen, IsNeverShut}
use Rattle.boot_laws.specs.Totals.{total_of}

-- the queue is a queue or pipe of the plan, or a line or screen queue, not a raw queue
abbrev pub IsNoRaw : BootPlan → QueueIndex → Type 0
IsNoRaw plan (Small q) = q < length plan.queues
IsNoRaw plan (Large q) = Unit {0}

-- The closed tables agree with the plan and with the processors' logs. Only processors and quajects took lines, and
-- only they put lines in queues other than raw queues. The items of a raw queue were put by its device. If no step shut
-- a queue, no log reports that the queue is shut. No note is left in a chain
pub record TablesAgree (plan : BootPlan) (c : ClosedTables) (logs : List (List LogEntry)) : Type 0 where
  pub planned : AllByRecursion (AllByRecursion (FollowsPlan plan)) logs
  pub threads : (thread : ℕ) (t : closed.Thread) → slice_get c.threads thread ≡ Some t
      → ThreadAgrees plan thread t logs
  pub queues : (index : QueueIndex) (q : closed.Queue) → queue_at c index ≡ Some q → QueueAgrees index q logs
  pub taken : (index : QueueIndex) (q : closed.Queue) → queue_at c index ≡ Some q
      → q.taken_by_others ≡ flat_map (taken_from index) (c.movers ++ c.ttys)
  pub put : (index : QueueIndex) (q : closed.Queue) → IsNoRaw plan index → queue_at c index ≡ Some q
      → q.put_by_others ≡ flat_map (put_in index) (c.movers ++ c.ttys)
  pub left_open : (index : QueueIndex) (q : closed.Queue) → queue_at c index ≡ Some q → IsLeftOpen index logs
      → IsNeverShut index logs
  pub ttys : (tty : ℕ) (p : PlannedTty) (t : closed.Chain) (d : closed.Device) (raw : closed.Queue)
      → slice_get plan.ttys tty ≡ Some p → slice_get c.ttys tty ≡ Some t → slice_get c.devices tty ≡ Some d
      → queue_at c (Small (raw_queue (length plan.queues) tty)) ≡ Some raw
      → TtyAgrees (length plan.queues) tty p t d raw
  pub movers : (mover : ℕ) (p : PlannedMover) (m : closed.Chain) → slice_get plan.movers mover ≡ Some p
      → slice_get c.movers mover ≡ Some m → MoverAgrees mover p.mover m logs
  pub gauges : GaugesAgree c.gauges logs
  pub alarms : AlarmsAgree plan c logs
  pub none_left : (chain : closed.Chain) (k : ℕ) → slice_get (c.movers ++ c.ttys) k ≡ Some chain → chain.left ≡ 0

-- line a is before line b: by thread, and then by step
abbrev pub IsBefore : Line → Line → Type 0
IsBefore a b = (a.0.0 < b.0.0) ⊎ ((a.0.0 ≡ b.0.0) × (a.0.1 < b.0.1))

-- the lines are in strictly ascending order of thread and step
abbrev pub AreSorted : List Line → Type 0
AreSorted lines = (i j : ℕ) (a b : Line) → slice_get lines i ≡ Some a → slice_get lines j ≡ Some b → i < j
    → IsBefore a b

-- line a is before line b, or at the same thread and step
abbrev pub IsUpTo : Line → Line → Type 0
IsUpTo a b = (a.0.0 < b.0.0) ⊎ ((a.0.0 ≡ b.0.0) × (a.0.1 ≤ b.0.1))

abbrev pub Ascend : List Line → Type 0
Ascend lines = (i j : ℕ) (a b : Line) → slice_get lines i ≡ Some a → slice_get lines j ≡ Some b → i < j → IsUpTo a b

-- The report: the closed tables agree with the plan and the logs, and the report says their numbers. Its heard lines
-- are the lines heard in the logs, each once, by thread and then by step. It reports no note as left
pub record IsReport (plan : BootPlan) (c : ClosedTables) (logs : List (List LogEntry)) (heard : List Line) (r : Report)
    : Type 0 where
  pub tables : TablesAgree plan c logs
  pub all_heard : IsPermutation (total_of logs).heard heard
  pub sorted : AreSorted heard
  pub says : Says plan c heard r
  pub chained : r.chained ≡ 0
