-- The closed tables of a boot as plain data, made from the results of closing and from the ends that were joined.
use Rattle.std.specs.Prelude.{◌+◌, ◌-◌, ◌&&◌, Bool, ℕ, zero, suc, not, nat_lt, if◌then◌else◌, List, []}
use Rattle.std.specs.Prelude.{◌∷◌, map, take, drop}
use Rattle.std.specs.Prelude.{length, flat_map, slice_index_or}
use Rattle.std.specs.List.{range_with_len}
use Rattle.boot_data.specs.declared.boot_plan.BootPlan.{BootPlan}
use Rattle.boot_data.specs.declared.plan.QueueIndex.{QueueIndex}
use Rattle.boot_data.specs.declared.plan.QueueIndex.TheVariants.{Small, Large}
use Rattle.claim_queue.specs.declared.close.Closed.{Closed as ShutQueue}
use Rattle.claim_queue.specs.declared.ends.QueueEnd.{QueueEnd}
use Rattle.claim_queue.specs.Handles.{view_of}
use Rattle.claim_queue.specs.Lines.{lines_put, lines_taken}
use Rattle.boot_objects.specs.declared.closing.all.TornDown.{TornDown}
use Rattle.turn_io.specs.Accounts.{room_of}
use Rattle.processor.specs.Accounts.{Account}
use Rattle.quajects.specs.declared.any.AnyQuaject.{AnyQuaject}
use Rattle.quajects.specs.declared.home.Home.{Home}
use Rattle.quajects.specs.Homes.{homes_in}
use Rattle.quajects.specs.Settled.{runs_of}
use Rattle.boot_laws.specs.Boots.{Boot, others_at}
use Rattle.boot_laws.specs.ClosedTables.{ClosedTables}
use Rattle.boot_laws.specs.ClosedTables as closed
use Rattle.boot_laws.specs.Endings.{thread_of}
use Rattle.table_theory.specs.declared.queues.Batch.{Batch}
use Rattle.table_theory.specs.Positioned.{blank}

-- QUEUES

-- the position lies in the run
abbrev pub lies_in : ℕ → Batch → Bool
lies_in p run = not (nat_lt p run.start) && nat_lt p (run.start + length run.places)

-- the item at the position: the item of the first run in which the position lies
abbrev pub item_at : List Batch → ℕ → ℕ
item_at [] p = 0
item_at (run ∷ runs) p =
    if lies_in p run then (slice_index_or run.places (p - run.start) blank).item else item_at runs p

-- the items at so many positions, from this one on
abbrev pub items_from : List Batch → ℕ → ℕ → List ℕ
items_from runs p zero = []
items_from runs p (suc n) = item_at runs p ∷ items_from runs (suc p) n

-- the queue of this boot that this end closed: the items at its positions, and the lines of each processor and of the
-- others
abbrev pub queue_of : BootPlan → Boot → (index : QueueIndex) → QueueEnd (room_of index) → ShutQueue (room_of index)
    → closed.Queue
queue_of plan boot index end shut = record {
  items = items_from (runs_of (view_of end)) shut.first shut.put;
  taken = shut.taken;
  put_by = map (λ (did : Account). (did.queues index).put) boot.done.by_each;
  put_by_others = flat_map lines_put (map view_of (others_at plan boot index));
  taken_by = map (λ (did : Account). (did.queues index).taken) boot.done.by_each;
  taken_by_others = flat_map lines_taken (map view_of (others_at plan boot index));
}

-- the queues from this number on, each made from the end that closed it
abbrev pub queues_from : {n : ℕ} → (ℕ → QueueEnd n → ShutQueue n → closed.Queue) → ℕ → List (QueueEnd n)
    → List (ShutQueue n) → List closed.Queue
queues_from make number [] shuts = []
queues_from make number (end ∷ ends) [] = []
queues_from make number (end ∷ ends) (shut ∷ shuts) = make number end shut ∷ queues_from make (number + 1) ends shuts

-- QUAJECTS

-- the closed chains: each quaject with the number of notes left in its chain
abbrev pub chains_of : List AnyQuaject → List Home → List closed.Chain
chains_of [] homes = []
chains_of (quaject ∷ quajects) [] = []
chains_of (quaject ∷ quajects) (home ∷ homes) =
    record { quaject = quaject; left = home.left } ∷ chains_of quajects homes

-- ALL

-- the closed tables of this boot, by the results of closing, the quajects that came home, and the devices' results
abbrev pub closed_of : BootPlan → Boot → TornDown → List AnyQuaject → List closed.Device → ClosedTables
closed_of plan boot ended quajects devices = record {
  small = queues_from (λ q. queue_of plan boot (Small q)) 0 ended.ends.value.small.items ended.small.items;
  large = queues_from (λ q. queue_of plan boot (Large q)) 0 ended.ends.value.large.items ended.large.items;
  threads = map (thread_of ended.threads ended.signals) (range_with_len 0 (length plan.threads));
  movers = take (length plan.movers) (chains_of quajects (homes_in ended.counts.items));
  ttys = drop (length plan.movers) (chains_of quajects (homes_in ended.counts.items));
  devices = devices;
  gauges = take (length plan.gauges) ended.meters.gauges;
  fired = boot.done.in_all.meters.fired;
  left = ended.meters.alarms.items;
}
