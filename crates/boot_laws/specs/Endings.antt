-- The facts that a boot knows once its processors have returned and its tables are closed.
use Rattle.std.specs.Prelude.{◌≡◌, ◌≤◌, ◌+◌, ◌%◌, ℕ, List, [], ◌∷◌, ◌++◌, map, take, length, flat_map}
use Rattle.std.specs.Prelude.{Option, Some, None, slice_index_or}
use Rattle.std.specs.List.{slice_get, concat, AllByRecursion}
use Rattle.boot_data.specs.declared.boot_plan.BootPlan.{BootPlan}
use Rattle.boot_data.specs.declared.plan.PlannedMover.{PlannedMover}
use Rattle.boot_data.specs.declared.plan.QueueIndex.{QueueIndex}
use Rattle.boot_data.specs.declared.plan.QueueIndex.TheVariants.{Small, Large}
use Rattle.claim_queue.specs.declared.ends.QueueEnd.{QueueEnd}
use Rattle.claim_queue.specs.Handles as queues
use Rattle.claim_queue.specs.Lines.{lines_put, lines_taken, line_of}
use Rattle.event_theory.specs.declared.alarm.Alarm.{Alarm}
use Rattle.event_theory.specs.Numbers.{u64_values}
use Rattle.turn_io.specs.Accounts.{at_one, room_of}
use Rattle.boot_laws.specs.Settlings.{Settles, NoneOn}
use Rattle.meters.specs.Views.{amount_on, times}
use Rattle.quajects.specs.declared.home.Home.{Home}
use Rattle.quajects.specs.declared.ports.Port.{Port}
use Rattle.quajects.specs.Anys.{PortsOf, KeepsSides, IsKept, notes_of}
use Rattle.quajects.specs.Settled.{runs_of, takings_of}
use Rattle.table_theory.specs.declared.queues.Batch.{Batch}
use Rattle.table_theory.specs.declared.queues.Cell.{Cell}
use Rattle.table_theory.specs.Filing.{Owned}
use Rattle.table_theory.specs.Interleaving.{Ascending, joined}
use Rattle.table_theory.specs.Listing.{IsListed}
use Rattle.table_theory.specs.Positioned.{item_of}
use Rattle.thread_table.specs.declared.close.Places.{Places}
use Rattle.thread_table.specs.declared.places.Place.TheVariants as places
use Rattle.processor.specs.Accounts.{Account, ◌⊕◌, shown_in}
use Rattle.processor.specs.Entries.{LogEntry, FollowsPlan}
use Rattle.processor.specs.Logs.{Climbs, numbers_done, sum_of}
use Rattle.processor.specs.Preparing.{preparing}
use Rattle.boot_data.specs.Hearing.{Key}
use Rattle.boot_laws.specs.Agreements.{IsMover, MadeOfNew}
use Rattle.boot_laws.specs.ClosedTables.{ClosedTables}
use Rattle.boot_laws.specs.ClosedTables as closed
use Rattle.boot_laws.specs.Totals.{total_of}

-- PROCESSORS

-- the work done in a boot: before its processors had turns, by each of them, and in all
pub record Done : Type 0 where
  pub before : Account
  pub by_each : List Account
  pub in_all : Account

-- Each entry of the logs follows the plan. In each log the numbers of a thread's steps climb. Before the turns, the
-- threads were prepared from 64 free elements. Each processor did what its log comes to. All that was done is the
-- preparing, followed by what the logs come to
pub record WorkedTogether (plan : BootPlan) (logs : List (List LogEntry)) (done : Done) : Type 0 where
  pub planned : AllByRecursion (AllByRecursion (FollowsPlan plan)) logs
  pub climb : (thread : ℕ) → AllByRecursion (λ log. (high : ℕ) × Climbs (numbers_done log thread) 0 high) logs
  pub prepared : done.before ≡ preparing plan done.before
  pub took : length done.before.hand.taken ≡ 64
  pub each : done.by_each ≡ map sum_of logs
  pub all : done.in_all ≡ done.before ⊕ total_of logs

-- THREADS

-- the elements that were put into the free ring are no thread's
abbrev pub FreedSpare : BootPlan → Account → Type 0
FreedSpare plan did = AllByRecursion (λ (freed : Key). length plan.threads ≤ freed.0) did.hand.retired

-- the thread with this number, by the closed table and the signals that were shown
abbrev pub thread_of : Places → List ℕ → ℕ → closed.Thread
thread_of reported signals thread = record {
  place = slice_index_or reported.places thread places.Held;
  steps = slice_index_or reported.pcs thread 0;
  pending = slice_index_or reported.pending thread 0;
  shown = slice_index_or signals thread 0;
}

-- The work done comes to the table's places, steps and pending signals, and to the signals shown. No element is on a
-- processor. At most 64 threads are closed, each as the table and the signals have it
pub record ThreadsEnded (did : Account) (c : ClosedTables) : Type 0 where
  pub reported : Places
  pub signals : List ℕ
  pub settles : Settles did.hand reported.places reported.pcs reported.pending
  pub none_on : NoneOn reported.places
  pub shown : did.shown ≡ shown_in signals
  pub few : length c.threads ≤ 64
  pub each : (thread : ℕ) (t : closed.Thread) → slice_get c.threads thread ≡ Some t
      → t ≡ thread_of reported signals thread

-- QUEUES

-- Each processor has stretches that are these lines, in ascending order. These stretches and those of the others, in
-- some order, cover the places from position `first` on, each place once
pub record AreCovered (first : ℕ) (places : List Cell) (by : List (List (List ℕ))) (others : List Batch) : Type 0 where
  pub own : List (List Batch)
  pub lines : map (map line_of) own ≡ by
  pub ascend : AllByRecursion Ascending own
  pub order : List (Owned Batch)
  pub listed : IsListed first places order ((joined own ++ others) ∷ [])

-- The queue is closed; its ends were the processors' ends and these others. Their claims cover all its places, their
-- takings the first places, which were taken. No more items are left than the queue has places
pub record QueueEnded (index : QueueIndex) (by_each : List Account) (others : List (QueueEnd (room_of index)))
    (q : closed.Queue) : Type 0 where
  pub first : ℕ
  pub places : List Cell
  pub items : q.items ≡ map item_of places
  pub taken_within : q.taken ≤ length q.items
  pub within : length q.items ≤ q.taken + room_of index
  pub claims : AreCovered first places q.put_by (flat_map runs_of (map queues.view_of others))
  pub takings : AreCovered first (take q.taken places) q.taken_by (flat_map takings_of (map queues.view_of others))
  pub put_by : q.put_by ≡ map (λ (did : Account). (did.queues index).put) by_each
  pub taken_by : q.taken_by ≡ map (λ (did : Account). (did.queues index).taken) by_each
  pub put_by_others : q.put_by_others ≡ flat_map lines_put (map queues.view_of others)
  pub taken_by_others : q.taken_by_others ≡ flat_map lines_taken (map queues.view_of others)

-- the ends of the queue with this number
abbrev pub ends_at : {n : ℕ} → ℕ → List (Option (Port n)) → List (QueueEnd n)
ends_at number [] = []
ends_at number (None ∷ ports) = ends_at number ports
ends_at number (Some port ∷ ports) = at_one [] port.index (port.end ∷ []) number ++ ends_at number ports

-- the ends of the queue that came home with a quaject
abbrev pub home_at : (index : QueueIndex) → Home → List (QueueEnd (room_of index))
home_at (Small q) home = ends_at q home.small
home_at (Large q) home = ends_at q home.large

-- the ends of the queue that devices had; `ends` are the devices' ends of the raw queues, the first of which has the
-- number `raw`
abbrev pub device_at : (index : QueueIndex) → ℕ → List (QueueEnd 64) → List (QueueEnd (room_of index))
device_at (Large q) raw ends = []
device_at (Small q) raw [] = []
device_at (Small q) raw (end ∷ ends) = at_one [] raw (end ∷ []) q ++ device_at (Small q) (raw + 1) ends

-- QUAJECTS

-- The quaject came home from its closed chain with these ends. Only its notes made it, from a quaject that had done
-- nothing. It kept its law and its sides, and no note was left
pub record ChainEnded (home : Home) (chain : closed.Chain) : Type 0 where
  pub ports : PortsOf chain.quaject (home.small, home.large)
  pub of_new : MadeOfNew chain.quaject
  pub kept : IsKept chain.quaject
  pub sides : KeepsSides chain.quaject
  pub none_left : chain.left ≡ 0

-- the pump or switch is the plan's, and ran as many notes as were chained in the chain with this number
pub record MoverEnded (number : ℕ) (p : PlannedMover) (did : Account) (m : closed.Chain) : Type 0 where
  pub of_plan : IsMover p.mover m.quaject
  pub ran : notes_of m.quaject ≡ length (concat (did.chains number).notes)

-- METERS

-- the gauges sum the ticks, modulo 2^64; each alarm set was fired, was cancelled or is left; `c.fired` are those fired
pub record MetersEnded (did : Account) (c : ClosedTables) : Type 0 where
  pub gauges : (gauge value : ℕ) → slice_get c.gauges gauge ≡ Some value
      → value ≡ amount_on gauge did.meters.ticks % u64_values
  pub alarms : (alarm : Alarm)
      → times alarm did.meters.set
      ≡ times alarm did.meters.fired + times alarm did.meters.cancelled + times alarm c.left
  pub fired : c.fired ≡ did.meters.fired
