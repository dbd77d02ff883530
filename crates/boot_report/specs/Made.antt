-- The lines of a report, each made from a thing of the plan and from the numbers at its place.
use Rattle.std.specs.Prelude.{◌≡◌, ◌+◌, ◌-◌, ◌%◌, ◌^◌, ℕ, nat_lt, if◌then◌else◌, List, [], ◌∷◌, length, Option, Some}
use Rattle.std.specs.Prelude.{None}
use Rattle.std.specs.Prelude.{slice_index_or, map}
use Rattle.std.specs.List.{slice_get, sum_by}
use Rattle.event_theory.specs.Numbers.{u32_max, u32_values}
use Rattle.boot_data.specs.declared.plan.PlannedMover.{PlannedMover}
use Rattle.boot_data.specs.declared.plan.PlannedQueue.{PlannedQueue}
use Rattle.boot_data.specs.declared.plan.PlannedThread.{PlannedThread}
use Rattle.boot_data.specs.declared.plan.PlannedTty.{PlannedTty}
use Rattle.boot_data.specs.declared.report.AlarmCounts.{AlarmCounts}
use Rattle.boot_data.specs.declared.report.GaugeLine.{GaugeLine}
use Rattle.boot_data.specs.declared.report.MoverLine.{MoverLine}
use Rattle.boot_data.specs.declared.report.QueueLine.{QueueLine}
use Rattle.boot_data.specs.declared.report.Report.{Report}
use Rattle.boot_data.specs.declared.report.ThreadLine.{ThreadLine}
use Rattle.boot_data.specs.declared.report.ThreadState.{ThreadState}
use Rattle.boot_data.specs.declared.report.ThreadState.TheVariants as states
use Rattle.boot_data.specs.declared.report.TtyLines.{TtyLines}
use Rattle.boot_data.specs.Hearing.{Line, NamedLine, named_line}
use Rattle.boot_data.specs.QueueLists.{raw_queue, line_queue, screen_queue}
use Rattle.claim_queue.specs.declared.close.Closed.{Closed}
use Rattle.boot_objects.specs.declared.closing.all.TornDown.{TornDown}
use Rattle.quajects.specs.declared.came.Came.{Came}
use Rattle.thread_table.specs.declared.places.Place.{Place}
use Rattle.thread_table.specs.declared.places.Place.TheVariants as places
use Rattle.boot_laws.specs.Lines.{kind_of_queue, kind_of_mover}
use Rattle.boot_report.specs.declared.ttys.Typed.{Typed}
use Rattle.boot_report.specs.Amounts.{counts_at, numbers_at}

-- the results of `made` for each thing and its number, from this number on
abbrev pub numbered : {A B : Type 0} → (ℕ → A → B) → ℕ → List A → List B
numbered made number [] = []
numbered made number (x ∷ xs) = made number x ∷ numbered made (number + 1) xs

-- the line of the queue or pipe with this number
abbrev pub queue_line : List (Closed 64) → ℕ → PlannedQueue → QueueLine
queue_line small number queue = record {
  kind = kind_of_queue queue.waits;
  name = queue.name;
  items = counts_at small number;
}

-- the line of the gauge with this number
abbrev pub gauge_line : List ℕ → ℕ → List ℕ → GaugeLine
gauge_line values number name = record { name = name; value = slice_index_or values number 0 }

-- the line of the pump or switch with this number; its chain has this number too
abbrev pub mover_line : List Came → ℕ → PlannedMover → MoverLine
mover_line counts number mover = record {
  kind = kind_of_mover mover.mover;
  name = mover.name;
  notes = (numbers_at counts number).notes;
  taken = (numbers_at counts number).taken;
  put = (numbers_at counts number).put;
  held = (numbers_at counts number).held;
}

-- the notes left in a chain
abbrev pub left_in : Came → ℕ
left_in came = came.left

-- the numbers of a tty's device, or 0
abbrev pub typed_of : Option Typed → Typed
typed_of None = record { popped = 0; refused = 0 }
typed_of (Some typed) = typed

-- the numbers of the device of the tty with this number, or 0 if there is none
abbrev pub typed_at : List Typed → ℕ → Typed
typed_at typed tty = typed_of (slice_get typed tty)

-- the lines of the tty with this number; the chains of the ttys are after the chains of the pumps and switches
abbrev pub tty_lines : TornDown → List Typed → ℕ → PlannedTty → TtyLines
tty_lines ended typed number tty = record {
  name = tty.name;
  typed = (typed_at typed number).popped;
  overrun = (typed_at typed number).refused;
  notes = (numbers_at ended.counts.items (length ended.plan.movers + number)).notes;
  held = (numbers_at ended.counts.items (length ended.plan.movers + number)).held;
  raw = counts_at ended.small.items (raw_queue (length ended.plan.queues) number);
  line = counts_at ended.large.items (line_queue number);
  screen = counts_at ended.large.items (screen_queue number);
}

-- the report's word for a place; there are 16 wait queues
abbrev pub reported : Place → ThreadState
reported places.Free = states.Ended
reported places.Ready = states.Ready
reported (places.Wait wait) = if nat_lt wait 16 then states.Wait wait else states.Held
reported places.Stopped = states.Stopped
reported places.Held = states.Held
reported (places.Processor p) = states.Held

-- the report's word for a place, or held if the element has no place
abbrev pub state_of : Option Place → ThreadState
state_of None = states.Held
state_of (Some place) = reported place

-- the word for the place of the thread with this number
abbrev pub state_at : List Place → ℕ → ThreadState
state_at stands thread = state_of (slice_get stands thread)

-- a number of steps, or 2^32 - 1 if there are more
abbrev pub few : ℕ → ℕ
few steps = if nat_lt steps u32_values then steps else u32_max

-- the signals that were shown to the thread with this number
abbrev pub shown_at : List ℕ → ℕ → ℕ
shown_at signals thread = slice_index_or signals thread 0

-- the line of the thread with this number
abbrev pub thread_line : TornDown → ℕ → PlannedThread → ThreadLine
thread_line ended number thread = record {
  name = thread.name;
  state = state_at ended.threads.places number;
  steps = few (slice_index_or ended.threads.pcs number 0);
  signals = shown_at ended.signals number;
}

abbrev pub name_of : PlannedThread → List ℕ
name_of thread = thread.name

-- a heard line, with the name of its thread
abbrev pub heard_line : List PlannedThread → Line → NamedLine
heard_line threads heard = named_line (map name_of threads) heard

-- the counts of alarms, of which `set` were set and `left` are left; the others fired
abbrev pub alarm_counts : ℕ → ℕ → AlarmCounts
alarm_counts set left = record { set = set; fired = set - left; left = left }

-- the report is made, line by line, from the closed objects, the lines heard and the numbers of the devices
pub record IsMade (ended : TornDown) (heard : List Line) (typed : List Typed) (r : Report) : Type 0 where
  pub queues : r.queues ≡ numbered (queue_line ended.small.items) 0 ended.plan.queues
  pub ttys : r.ttys ≡ numbered (tty_lines ended typed) 0 ended.plan.ttys
  pub movers : r.movers ≡ numbered (mover_line ended.counts.items) 0 ended.plan.movers
  pub gauges : r.gauges ≡ numbered (gauge_line ended.meters.gauges) 0 ended.plan.gauges
  pub alarms : r.alarms ≡ alarm_counts (length ended.plan.alarms) (length ended.meters.alarms.items)
  pub threads : r.threads ≡ numbered (thread_line ended) 0 ended.plan.threads
  pub heard_is : r.heard ≡ map (heard_line ended.plan.threads) heard
  pub chained : r.chained ≡ sum_by left_in ended.counts.items % 2 ^ 64
