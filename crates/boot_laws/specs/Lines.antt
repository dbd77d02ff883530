-- The lines of a report, in terms of the plan and of the closed tables.
use Rattle.std.specs.Prelude.{◌≡◌, ◌+◌, ◌*◌, ℕ, List, [], length, take, drop, Option, Some, None}
use Rattle.std.specs.List.{slice_get, sum_by}
use Rattle.boot_data.specs.declared.boot_plan.BootPlan.{BootPlan}
use Rattle.boot_data.specs.declared.plan.Mover.{Mover}
use Rattle.boot_data.specs.declared.plan.Mover.TheVariants as movers
use Rattle.boot_data.specs.declared.plan.PipeWaits.{PipeWaits}
use Rattle.boot_data.specs.declared.plan.PlannedMover.{PlannedMover}
use Rattle.boot_data.specs.declared.plan.PlannedQueue.{PlannedQueue}
use Rattle.boot_data.specs.declared.plan.PlannedThread.{PlannedThread}
use Rattle.boot_data.specs.declared.plan.PlannedTty.{PlannedTty}
use Rattle.boot_data.specs.declared.report.AlarmCounts.{AlarmCounts}
use Rattle.boot_data.specs.declared.report.GaugeLine.{GaugeLine}
use Rattle.boot_data.specs.declared.report.ItemCounts.{ItemCounts}
use Rattle.boot_data.specs.declared.report.MoverKind.{MoverKind}
use Rattle.boot_data.specs.declared.report.MoverKind.TheVariants.{Pump, Switch}
use Rattle.boot_data.specs.declared.report.MoverLine.{MoverLine}
use Rattle.boot_data.specs.declared.report.QueueKind.{QueueKind}
use Rattle.boot_data.specs.declared.report.QueueKind.TheVariants.{Queue, Pipe}
use Rattle.boot_data.specs.declared.report.QueueLine.{QueueLine}
use Rattle.boot_data.specs.declared.report.Report.{Report}
use Rattle.boot_data.specs.declared.report.ThreadLine.{ThreadLine}
use Rattle.boot_data.specs.declared.report.ThreadState.{ThreadState}
use Rattle.boot_data.specs.declared.report.ThreadState.TheVariants as states
use Rattle.boot_data.specs.declared.report.TtyLines.{TtyLines}
use Rattle.boot_data.specs.QueueLists.{raw_queue, line_queue, screen_queue}
use Rattle.quajects.specs.Anys.{notes_of, all_taken, all_puts, held_of}
use Rattle.quajects.specs.Lines.{counted}
use Rattle.thread_table.specs.declared.places.Place.{Place}
use Rattle.thread_table.specs.declared.places.Place.TheVariants as places
use Rattle.boot_data.specs.Hearing.{Line, NamedLine}
use Rattle.boot_laws.specs.ClosedTables.{ClosedTables}
use Rattle.boot_laws.specs.ClosedTables as closed

-- these counts are the numbers of items put, taken and left
pub record Counts (q : closed.Queue) (counts : ItemCounts) : Type 0 where
  pub put : counts.put ≡ length q.items
  pub taken : counts.taken ≡ length (take q.taken q.items)
  pub left : counts.left ≡ length (drop q.taken q.items)

abbrev pub kind_of_queue : Option PipeWaits → QueueKind
kind_of_queue None = Queue
kind_of_queue (Some waits) = Pipe

pub record QueueSaid (p : PlannedQueue) (q : closed.Queue) (line : QueueLine) : Type 0 where
  pub kind : line.kind ≡ kind_of_queue p.waits
  pub name : line.name ≡ p.name
  pub items : Counts q line.items

-- the line has the bytes popped and refused, and the cooked tty's notes run and bytes held
pub record TtySaid (p : PlannedTty) (c : closed.Chain) (d : closed.Device) (lines : TtyLines) : Type 0 where
  pub name : lines.name ≡ p.name
  pub typed : lines.typed ≡ length d.popped
  pub overrun : lines.overrun ≡ d.refused
  pub notes : lines.notes ≡ notes_of c.quaject
  pub held : lines.held ≡ length (held_of c.quaject)

-- the lines have the counts of the three queues of the tty with this number; the plan has `queues` queues and pipes
pub record TtyQueuesSaid (queues tty : ℕ) (c : ClosedTables) (lines : TtyLines) : Type 0 where
  pub raw : (q : closed.Queue) → slice_get c.small (raw_queue queues tty) ≡ Some q → Counts q lines.raw
  pub line : (q : closed.Queue) → slice_get c.large (line_queue tty) ≡ Some q → Counts q lines.line
  pub screen : (q : closed.Queue) → slice_get c.large (screen_queue tty) ≡ Some q → Counts q lines.screen

abbrev pub kind_of_mover : Mover → MoverKind
kind_of_mover (movers.Pump from to) = Pump
kind_of_mover (movers.Switch from other ways) = Switch

-- the line has the notes run, the items taken and put, and the items held
pub record MoverSaid (p : PlannedMover) (c : closed.Chain) (line : MoverLine) : Type 0 where
  pub kind : line.kind ≡ kind_of_mover p.mover
  pub name : line.name ≡ p.name
  pub notes : line.notes ≡ notes_of c.quaject
  pub taken : line.taken ≡ counted (all_taken c.quaject)
  pub put : line.put ≡ counted (all_puts c.quaject)
  pub held : line.held ≡ length (held_of c.quaject)

pub record GaugeSaid (name : List ℕ) (value : ℕ) (line : GaugeLine) : Type 0 where
  pub name_is : line.name ≡ name
  pub value_is : line.value ≡ value

-- the counts are the numbers of alarms set, fired and left
pub record AlarmsSaid (plan : BootPlan) (c : ClosedTables) (counts : AlarmCounts) : Type 0 where
  pub set : counts.set ≡ length plan.alarms
  pub fired : counts.fired ≡ length c.fired
  pub left : counts.left ≡ length c.left

-- the report's word for a place
abbrev pub state_for : Place → ThreadState
state_for places.Free = states.Ended
state_for places.Ready = states.Ready
state_for (places.Wait wait) = states.Wait wait
state_for places.Stopped = states.Stopped
state_for places.Held = states.Held
state_for (places.Processor p) = states.Held

pub record ThreadSaid (p : PlannedThread) (t : closed.Thread) (line : ThreadLine) : Type 0 where
  pub name : line.name ≡ p.name
  pub state : line.state ≡ state_for t.place
  pub steps : line.steps ≡ t.steps
  pub signals : line.signals ≡ t.shown

abbrev pub name_in : Option PlannedThread → List ℕ
name_in None = []
name_in (Some thread) = thread.name

-- a heard line has the name of its thread, the number of its step, and the bytes heard
pub record HeardSaid (plan : BootPlan) (heard : Line) (line : NamedLine) : Type 0 where
  pub thread : line.thread ≡ name_in (slice_get plan.threads heard.0.0)
  pub step : line.step ≡ heard.0.1
  pub bytes : line.bytes ≡ heard.1

-- the report has a line for each thing of the plan, and there is a closed table for each
pub record AreWhole (plan : BootPlan) (c : ClosedTables) (r : Report) : Type 0 where
  pub queues : length r.queues ≡ length plan.queues
  pub ttys : length r.ttys ≡ length plan.ttys
  pub movers : length r.movers ≡ length plan.movers
  pub gauges : length r.gauges ≡ length plan.gauges
  pub threads : length r.threads ≡ length plan.threads
  pub small : length c.small ≡ length plan.queues + length plan.ttys
  pub large : length c.large ≡ length plan.ttys * 2
  pub all_ttys : (length c.ttys ≡ length plan.ttys) × (length c.devices ≡ length plan.ttys)
  pub all_movers : length c.movers ≡ length plan.movers
  pub all_gauges : length c.gauges ≡ length plan.gauges
  pub all_threads : length c.threads ≡ length plan.threads

-- the report says the numbers of the closed tables: each list in the order of the plan, with the plan's names
pub record Says (plan : BootPlan) (c : ClosedTables) (heard : List Line) (r : Report) : Type 0 where
  pub whole : AreWhole plan c r
  pub queues : (number : ℕ) (p : PlannedQueue) (q : closed.Queue) (line : QueueLine)
      → slice_get plan.queues number ≡ Some p → slice_get c.small number ≡ Some q
      → slice_get r.queues number ≡ Some line → QueueSaid p q line
  pub ttys : (tty : ℕ) (p : PlannedTty) (t : closed.Chain) (d : closed.Device) (lines : TtyLines)
      → slice_get plan.ttys tty ≡ Some p → slice_get c.ttys tty ≡ Some t → slice_get c.devices tty ≡ Some d
      → slice_get r.ttys tty ≡ Some lines → TtySaid p t d lines × TtyQueuesSaid (length plan.queues) tty c lines
  pub movers : (mover : ℕ) (p : PlannedMover) (m : closed.Chain) (line : MoverLine)
      → slice_get plan.movers mover ≡ Some p → slice_get c.movers mover ≡ Some m
      → slice_get r.movers mover ≡ Some line → MoverSaid p m line
  pub gauges : (gauge : ℕ) (name : List ℕ) (value : ℕ) (line : GaugeLine) → slice_get plan.gauges gauge ≡ Some name
      → slice_get c.gauges gauge ≡ Some value → slice_get r.gauges gauge ≡ Some line → GaugeSaid name value line
  pub alarms : AlarmsSaid plan c r.alarms
  pub threads : (thread : ℕ) (p : PlannedThread) (t : closed.Thread) (line : ThreadLine)
      → slice_get plan.threads thread ≡ Some p → slice_get c.threads thread ≡ Some t
      → slice_get r.threads thread ≡ Some line → ThreadSaid p t line
  pub many_heard : length r.heard ≡ length heard
  pub heard_lines : (k : ℕ) (line : Line) (said : NamedLine) → slice_get heard k ≡ Some line
      → slice_get r.heard k ≡ Some said → HeardSaid plan line said
  pub chained : r.chained ≡ sum_by (λ (chain : closed.Chain). chain.left) c.movers
      + sum_by (λ (chain : closed.Chain). chain.left) c.ttys
