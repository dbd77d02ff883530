-- Agreement of the closed tables with the plan and with the work of the processors.
use Rattle.std.specs.Prelude.{◌≡◌, ◌≤◌, ◌<◌, ◌+◌, ◌%◌, ◌==◌, ◌||◌, ℕ, Bool, true, false, nat_lt}
use Rattle.std.specs.Prelude.{if◌then◌else◌, List, [], ◌∷◌, ◌++◌, length, map, take}
use Rattle.std.specs.Prelude.{flat_map, Option, Some, None, count_by}
use Rattle.std.specs.List.{slice_get, list_any, concat, AllByRecursion}
use Rattle.boot_data.specs.declared.boot_plan.BootPlan.{BootPlan}
use Rattle.boot_data.specs.declared.plan.Mover.{Mover}
use Rattle.boot_data.specs.declared.plan.Mover.TheVariants as movers
use Rattle.boot_data.specs.declared.plan.PlannedTty.{PlannedTty}
use Rattle.boot_data.specs.declared.plan.QueueIndex.{QueueIndex}
use Rattle.boot_data.specs.declared.plan.QueueIndex.TheVariants.{Small, Large}
use Rattle.boot_data.specs.QueueLists.{raw_queue, line_queue, screen_queue}
use Rattle.claim_queue.specs.Handles.{view_of}
use Rattle.claim_queue.specs.Lines.{lines_put}
use Rattle.turn_io.specs.Accounts.{only, room_of}
use Rattle.event_theory.specs.declared.alarm.Alarm.{Alarm}
use Rattle.event_theory.specs.Numbers.{u64_values}
use Rattle.meters.specs.Views.{amount_on, times}
use Rattle.boot_objects.specs.DeviceEndings.{AreWithout}
use Rattle.quajects.specs.declared.any.AnyQuaject.{AnyQuaject}
use Rattle.quajects.specs.declared.any.AnyQuaject.TheVariants as any
use Rattle.quajects.specs.declared.ways.Way.{Way}
use Rattle.quajects.specs.Anys.{IsKept, KeepsSides, HasShutNothing, MadeOf, notes_of, all_taken, all_puts, held_of}
use Rattle.quajects.specs.Pumps as pumps
use Rattle.quajects.specs.Switches as switches
use Rattle.quajects.specs.Terminals as terminals
use Rattle.table_theory.specs.Interleaving.{Interleaves}
use Rattle.thread_table.specs.declared.places.Place.{Place}
use Rattle.thread_table.specs.declared.places.Place.TheVariants as places
use Rattle.thread_table.specs.Answers.{is_in}
use Rattle.processor.specs.Entries.{LogEntry}
use Rattle.processor.specs.Logs.{Climbs, numbers_done, sum_of}
use Rattle.boot_data.specs.Hearing.{Key}
use Rattle.processor.specs.Programs.{program, same_key}
use Rattle.boot_laws.specs.ClosedTables.{ClosedTables}
use Rattle.boot_laws.specs.ClosedTables as closed
use Rattle.boot_laws.specs.Totals.{total_of}

-- THREADS

-- The steps done are the first `steps` of the thread's program, each done once, by any processor. Each processor did
-- its steps of the thread in their order
pub record StepsAgree (plan : BootPlan) (thread steps : ℕ) (logs : List (List LogEntry)) : Type 0 where
  pub prefix : steps ≤ length (program plan thread)
  pub once : (number : ℕ) → count_by (same_key (thread, number)) (total_of logs).hand.done
      ≡ (if nat_lt number steps then 1 else 0)
  pub order : AllByRecursion (λ log. Climbs (numbers_done log thread) 0 steps) logs

-- A free element was retired by a processor, and its thread has done all its steps. An element at any other place was
-- not retired. No element is on a processor
abbrev pub PlaceAgrees : Place → ℕ → ℕ → Bool → Type 0
PlaceAgrees places.Free steps all retired = (steps ≡ all) × (retired ≡ true)
PlaceAgrees (places.Processor p) steps all retired = ⊥
PlaceAgrees place steps all retired = retired ≡ false

-- whether a processor put the thread's element into the free ring
abbrev pub was_retired : ℕ → List (List LogEntry) → Bool
was_retired thread logs = list_any (λ (key : Key). key.0 == thread) (total_of logs).hand.retired

-- The thread's steps were done in order, and its element's place fits them. A signal was shown exactly if the
-- processors delivered it. It was shown or is pending exactly if a done step or a fired alarm raised it
pub record ThreadAgrees (plan : BootPlan) (thread : ℕ) (t : closed.Thread) (logs : List (List LogEntry)) : Type 0 where
  pub ran : StepsAgree plan thread t.steps logs
  pub place : PlaceAgrees t.place t.steps (length (program plan thread)) (was_retired thread logs)
  pub shown : (signal : ℕ) → signal < 16 → is_in t.shown signal ≡ (total_of logs).shown thread signal
  pub signals : (signal : ℕ) → signal < 16 → (is_in t.shown signal || is_in t.pending signal)
      ≡ list_any (same_key (thread, signal)) (total_of logs).hand.signalled

-- QUEUES

-- The items are these lines in some order, joined, each line once. The lines of each of the lists are in the list's
-- order; the others may be anywhere
pub record IsWoven (items : List ℕ) (lists : List (List (List ℕ))) (others : List (List ℕ)) : Type 0 where
  pub order : List (List ℕ)
  pub whole : concat order ≡ items
  pub woven : Interleaves order (lists ++ map (λ line. line ∷ []) others)

-- Each processor put and took the lines of its log. Cut by claim, the items put are the lines put, each once. Cut by
-- taking, the items taken are the lines taken, each once. In both, each processor's lines are in the order of its log.
-- No more items are left than the queue has places
pub record QueueAgrees (index : QueueIndex) (q : closed.Queue) (logs : List (List LogEntry)) : Type 0 where
  pub taken_within : q.taken ≤ length q.items
  pub within : length q.items ≤ q.taken + room_of index
  pub said : q.put_by ≡ map (λ log. ((sum_of log).queues index).put) logs
  pub heard : q.taken_by ≡ map (λ log. ((sum_of log).queues index).taken) logs
  pub claims : IsWoven q.items q.put_by q.put_by_others
  pub takings : IsWoven (take q.taken q.items) q.taken_by q.taken_by_others

-- the small queue that a quaject takes lines from
abbrev pub source_of : AnyQuaject → ℕ
source_of (any.Cooked tty) = tty.raw.index
source_of (any.Pump pump) = pump.source.index
source_of (any.Switch switch) = switch.source.index

-- the lines that the quaject of this chain took from the queue
abbrev pub taken_from : QueueIndex → closed.Chain → List (List ℕ)
taken_from index chain = only [] (Small (source_of chain.quaject)) (all_taken chain.quaject) index

-- the queue of a way, with the lines that were put there
abbrev pub way_target : Option Way → List (QueueIndex × List (List ℕ))
way_target None = []
way_target (Some way) = (Small way.outlet.index, lines_put (view_of way.outlet.end)) ∷ []

-- the queues that a quaject puts lines in, each with the lines that it put there
abbrev pub targets : AnyQuaject → List (QueueIndex × List (List ℕ))
targets (any.Cooked tty) = (Large tty.line.index, lines_put (view_of (terminals.line_of tty)))
    ∷ (Large tty.screen.index, lines_put (view_of (terminals.screen_of tty))) ∷ []
targets (any.Pump pump) = (Small pump.target.index, lines_put (view_of (pumps.target_of pump))) ∷ []
targets (any.Switch switch) =
    (Small switch.other.index, lines_put (view_of (switches.other_of switch))) ∷ flat_map way_target switch.ways

-- the lines that the quaject of this chain put in the queue
abbrev pub put_in : QueueIndex → closed.Chain → List (List ℕ)
put_in index chain = flat_map (λ target. only [] target.0 target.1 index) (targets chain.quaject)

-- TTYS

-- the quaject is a cooked tty over these three queues
abbrev pub IsTty : ℕ → ℕ → ℕ → AnyQuaject → Type 0
IsTty raw line screen (any.Cooked tty) = (tty.raw.index ≡ raw) × (tty.line.index ≡ line) × (tty.screen.index ≡ screen)
IsTty raw line screen quaject = ⊥

-- so many notes as the quaject counts, and nothing else, made it from a quaject that had done nothing
pub record MadeOfNew (quaject : AnyQuaject) : Type 0 where
  pub first : AnyQuaject
  pub none_taken : all_taken first ≡ []
  pub none_put : all_puts first ≡ []
  pub none_held : held_of first ≡ []
  pub none_run : notes_of first ≡ 0
  pub sides : KeepsSides first
  pub none_shut : HasShutNothing first
  pub notes : List ℕ
  pub made : MadeOf first quaject notes
  pub all : notes_of quaject ≡ length notes

-- The device popped the bytes that the plan types. The items put in the raw queue are these bytes, in their order,
-- without the refused ones. The cooked tty is over the tty's queues, was run only by its notes, and kept its law
pub record TtyAgrees (queues tty : ℕ) (p : PlannedTty) (t : closed.Chain) (d : closed.Device) (raw : closed.Queue)
    : Type 0 where
  pub typed : d.popped ≡ p.typed
  pub bytes : AreWithout d.popped d.refused raw.items
  pub its : IsTty (raw_queue queues tty) (line_queue tty) (screen_queue tty) t.quaject
  pub made : MadeOfNew t.quaject
  pub cooked : IsKept t.quaject

-- PUMPS AND SWITCHES

-- the key of a way, and its queue
abbrev pub routes_of : Option Way → List (ℕ × ℕ)
routes_of None = []
routes_of (Some way) = (way.key, way.outlet.index) ∷ []

-- the quaject is the pump or switch of the plan, over its queues and with its keys
abbrev pub IsMover : Mover → AnyQuaject → Type 0
IsMover (movers.Pump from to) (any.Pump pump) = (pump.source.index ≡ from) × (pump.target.index ≡ to)
IsMover (movers.Switch from other ways) (any.Switch switch) = (switch.source.index ≡ from)
    × (switch.other.index ≡ other) × (flat_map routes_of switch.ways ≡ map (λ way. (way.key, way.to)) ways)
IsMover mover quaject = ⊥

-- The plan's pump or switch was run only by its notes. The lines taken are those put, each where it belongs, and the
-- line held. The notes run and left are together as many as the done pokes chained
pub record MoverAgrees (mover : ℕ) (planned : Mover) (m : closed.Chain) (logs : List (List LogEntry)) : Type 0 where
  pub its : IsMover planned m.quaject
  pub made : MadeOfNew m.quaject
  pub kept : IsKept m.quaject
  pub pokes : notes_of m.quaject + m.left ≡ length ((total_of logs).chains mover).notes

-- METERS

-- a gauge is the sum of its ticks, modulo 2^64
abbrev pub GaugesAgree : List ℕ → List (List LogEntry) → Type 0
GaugesAgree gauges logs = (gauge value : ℕ) → slice_get gauges gauge ≡ Some value
    → value ≡ amount_on gauge (total_of logs).meters.ticks % u64_values

-- each alarm of the plan is fired or left, as often as the plan sets it; the processors fired the fired alarms
pub record AlarmsAgree (plan : BootPlan) (c : ClosedTables) (logs : List (List LogEntry)) : Type 0 where
  pub each : (alarm : Alarm) → times alarm plan.alarms ≡ times alarm c.fired + times alarm c.left
  pub by : c.fired ≡ (total_of logs).meters.fired
