-- The limits of a plan: how many of each kind it may have, and that each thing that its numbers name exists.
use Rattle.std.specs.Prelude.{◌≡◌, ◌≢◌, ℕ, ◌<◌, ◌≤◌, ◌*◌, ◌%◌, List, [], ◌∷◌, length}
use Rattle.std.specs.List.{AllByRecursion}
use Rattle.event_theory.specs.declared.alarm.Alarm.{Alarm}
use Rattle.boot_data.specs.declared.kind.Kind.{Kind}
use Rattle.boot_data.specs.declared.kind.Kind.TheVariants as kind
use Rattle.boot_data.specs.declared.plan.Mover.{Mover}
use Rattle.boot_data.specs.declared.plan.Mover.TheVariants.{Pump, Switch}
use Rattle.boot_data.specs.declared.plan.PlannedThread.{PlannedThread}
use Rattle.boot_data.specs.declared.plan.PlannedTty.{PlannedTty}
use Rattle.boot_data.specs.declared.plan.QueueIndex.{QueueIndex}
use Rattle.boot_data.specs.declared.plan.QueueIndex.TheVariants.{Small, Large}
use Rattle.boot_data.specs.declared.plan.Step.{Step}
use Rattle.boot_data.specs.declared.plan.Step.TheVariants.{Say, Hear, Wait, Wake, Signal, Stop}
use Rattle.boot_data.specs.declared.plan.Step.TheVariants.{Start, Tick, Poke, Pass, Close}
use Rattle.boot_data.specs.declared.plan.Way.{Way}
use Rattle.boot_data.specs.Plans.{Plan}

-- how many of each kind a plan has
abbrev pub many_of : Plan → Kind → ℕ
many_of plan kind.Queue = length plan.queues
many_of plan kind.Tty = length plan.ttys
many_of plan kind.Mover = length plan.movers
many_of plan kind.Gauge = length plan.gauges
many_of plan kind.Thread = length plan.threads

-- the queue exists: a small one is a queue or pipe of the plan, a large one is one of the two of a tty
abbrev pub IsQueueOf : (Kind → ℕ) → QueueIndex → Type 0
IsQueueOf many (Small queue) = queue < many kind.Queue
IsQueueOf many (Large queue) = queue < many kind.Tty * 2

-- the queue can be said to: it is a queue or pipe, or the screen queue of a tty, which has the odd number
abbrev pub IsSaidTo : (Kind → ℕ) → QueueIndex → Type 0
IsSaidTo many (Small queue) = queue < many kind.Queue
IsSaidTo many (Large queue) = (queue < many kind.Tty * 2) × (queue % 2 ≡ 1)

-- each queue, thread, gauge, pump or switch that a step names exists; a `say` names a queue that can be said to
abbrev pub IsStepOf : (Kind → ℕ) → Step → Type 0
IsStepOf many (Say queue text) = IsSaidTo many queue
IsStepOf many (Hear queue) = IsQueueOf many queue
IsStepOf many (Wait wait) = Unit {0}
IsStepOf many (Wake wait) = Unit {0}
IsStepOf many (Signal thread signal) = thread < many kind.Thread
IsStepOf many (Stop thread) = thread < many kind.Thread
IsStepOf many (Start thread) = thread < many kind.Thread
IsStepOf many (Tick gauge amount) = gauge < many kind.Gauge
IsStepOf many (Poke mover) = mover < many kind.Mover
IsStepOf many Pass = Unit {0}
IsStepOf many (Close queue) = queue < many kind.Queue

-- the queue or pipe of a way exists
abbrev pub IsWayOf : (Kind → ℕ) → Way → Type 0
IsWayOf many way = way.to < many kind.Queue

-- no two of the ways have the same key, and none of them has one of these earlier keys
abbrev pub AreApart : List ℕ → List Way → Type 0
AreApart keys [] = Unit {0}
AreApart keys (way ∷ ways) = AllByRecursion (λ key. way.key ≢ key) keys × AreApart (way.key ∷ keys) ways

-- the queues of a pump or switch and of its ways exist; a switch has at least one way, and no key twice
abbrev pub IsMoverOf : (Kind → ℕ) → Mover → Type 0
IsMoverOf many (Pump from to) = (from < many kind.Queue) × (to < many kind.Queue)
IsMoverOf many (Switch from other ways) =
    (from < many kind.Queue) × (other < many kind.Queue) × AllByRecursion (IsWayOf many) ways
    × (1 ≤ length ways) × AreApart [] ways

-- the thread of an alarm exists
abbrev pub IsAlarmOf : (Kind → ℕ) → Alarm → Type 0
IsAlarmOf many alarm = alarm.element < many kind.Thread

-- a program has at most 64 steps, and whatever they name exists
abbrev pub IsProgramOf : (Kind → ℕ) → PlannedThread → Type 0
IsProgramOf many thread = (length thread.steps ≤ 64) × AllByRecursion (IsStepOf many) thread.steps

-- a device types at most 1,024 bytes
abbrev pub IsTyped : PlannedTty → Type 0
IsTyped tty = length tty.typed ≤ 1024

-- The plan is within the limits of a boot, and whatever it names exists
pub record IsPlan (plan : Plan) : Type 0 where
  pub queues : length plan.queues ≤ 8
  pub ttys : length plan.ttys ≤ 2
  pub movers : length plan.movers ≤ 4
  pub gauges : length plan.gauges ≤ 8
  pub alarms : length plan.alarms ≤ 16
  pub threads : length plan.threads ≤ 64
  pub typed : AllByRecursion IsTyped plan.ttys
  pub moved : AllByRecursion (λ planned. IsMoverOf (many_of plan) planned.mover) plan.movers
  pub signalled : AllByRecursion (IsAlarmOf (many_of plan)) plan.alarms
  pub programs : AllByRecursion (IsProgramOf (many_of plan)) plan.threads
