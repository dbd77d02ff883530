-- The closed objects show the numbers of the closed tables.
use Rattle.std.specs.Prelude.{◌≡◌, ◌+◌, ◌-◌, ◌*◌, ◌≤◌, ℕ, List, ◌++◌, length, take, Some, slice_index_or}
use Rattle.std.specs.List.{slice_get}
use Rattle.claim_queue.specs.declared.close.Closed.{Closed as ClosedQueue}
use Rattle.boot_objects.specs.declared.closing.all.TornDown.{TornDown}
use Rattle.boot_laws.specs.Settlings.{IsNamed}
use Rattle.quajects.specs.declared.came.Came.{Came}
use Rattle.quajects.specs.Anys.{notes_of, all_taken, all_puts, held_of}
use Rattle.quajects.specs.Lines.{counted}
use Rattle.thread_table.specs.declared.places.Place.TheVariants as places
use Rattle.processor.specs.Programs.{program}
use Rattle.boot_laws.specs.ClosedTables.{ClosedTables}
use Rattle.boot_laws.specs.ClosedTables as closed
use Rattle.boot_report.specs.declared.amounts.Numbers.{Numbers}
use Rattle.boot_report.specs.declared.ttys.Typed.{Typed}

-- a queue: the numbers of the items put and taken are those of the closed queue; the other items are left
pub record ShowsQueue {n : ℕ} (q : closed.Queue) (numbers : ClosedQueue n) : Type 0 where
  pub put : numbers.put ≡ length q.items
  pub taken : numbers.taken ≡ q.taken
  pub taken_within : q.taken ≤ length q.items
  pub left : length numbers.left.items ≡ numbers.put - numbers.taken

-- these are the numbers of each queue
pub record ShowsQueues {n : ℕ} (queues : List closed.Queue) (numbers : List (ClosedQueue n)) : Type 0 where
  pub as_many : length numbers ≡ length queues
  pub each : (k : ℕ) (q : closed.Queue) (its : ClosedQueue n) → slice_get queues k ≡ Some q
      → slice_get numbers k ≡ Some its → ShowsQueue q its

-- a chain: the numbers of its quaject, and the number of notes left, at most 32
pub record ShowsChain (chain : closed.Chain) (numbers : Came) : Type 0 where
  pub notes : numbers.notes ≡ notes_of chain.quaject
  pub taken : numbers.taken ≡ counted (all_taken chain.quaject)
  pub put : numbers.put ≡ counted (all_puts chain.quaject)
  pub held : numbers.held ≡ length (held_of chain.quaject)
  pub left : numbers.left ≡ chain.left
  pub few : chain.left ≤ 32

-- a quaject: the numbers that its line in the report has
pub record ShowsNumbers (chain : closed.Chain) (numbers : Numbers) : Type 0 where
  pub notes : numbers.notes ≡ notes_of chain.quaject
  pub taken : numbers.taken ≡ counted (all_taken chain.quaject)
  pub put : numbers.put ≡ counted (all_puts chain.quaject)
  pub held : numbers.held ≡ length (held_of chain.quaject)

-- these are the numbers of each chain
pub record ShowsChains (chains : List closed.Chain) (numbers : List Came) : Type 0 where
  pub as_many : length numbers ≡ length chains
  pub each : (k : ℕ) (chain : closed.Chain) (its : Came) → slice_get chains k ≡ Some chain
      → slice_get numbers k ≡ Some its → ShowsChain chain its

-- a thread: the place of its element, its steps done, no more than its program has, and its signals
pub record ShowsThread (ended : TornDown) (thread : ℕ) (t : closed.Thread) : Type 0 where
  pub place : t.place ≡ slice_index_or ended.threads.places thread places.Held
  pub named : IsNamed t.place
  pub steps : t.steps ≡ slice_index_or ended.threads.pcs thread 0
  pub prefix : t.steps ≤ length (program ended.plan thread)
  pub shown : t.shown ≡ slice_index_or ended.signals thread 0

-- a device: the number of bytes popped, and how many of them were refused
pub record ShowsDevice (d : closed.Device) (typed : Typed) : Type 0 where
  pub popped : typed.popped ≡ length d.popped
  pub refused : typed.refused ≡ d.refused

-- these are the numbers of each device
pub record ShowsDevices (devices : List closed.Device) (typed : List Typed) : Type 0 where
  pub as_many : length typed ≡ length devices
  pub each : (k : ℕ) (d : closed.Device) (its : Typed) → slice_get devices k ≡ Some d → slice_get typed k ≡ Some its
      → ShowsDevice d its

-- there is a closed table for each thing of the plan
pub record AreAll (ended : TornDown) (c : ClosedTables) : Type 0 where
  pub small : length c.small ≡ length ended.plan.queues + length ended.plan.ttys
  pub large : length c.large ≡ length ended.plan.ttys * 2
  pub movers : length c.movers ≡ length ended.plan.movers
  pub ttys : length c.ttys ≡ length ended.plan.ttys
  pub devices : length c.devices ≡ length ended.plan.ttys
  pub threads : length c.threads ≡ length ended.plan.threads

-- the numbers of the closed objects and of the devices are the numbers of the closed tables
pub record Shows (c : ClosedTables) (ended : TornDown) (typed : List Typed) : Type 0 where
  pub all : AreAll ended c
  pub small : ShowsQueues c.small ended.small.items
  pub large : ShowsQueues c.large ended.large.items
  pub chains : ShowsChains (c.movers ++ c.ttys) ended.counts.items
  pub threads : (thread : ℕ) (t : closed.Thread) → slice_get c.threads thread ≡ Some t → ShowsThread ended thread t
  pub devices : ShowsDevices c.devices typed
  pub gauges : c.gauges ≡ take (length ended.plan.gauges) ended.meters.gauges
  pub left : length ended.meters.alarms.items ≡ length c.left
  pub alarms : length ended.plan.alarms ≡ length c.fired + length c.left
