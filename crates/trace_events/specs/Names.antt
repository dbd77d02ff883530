-- The names that a plan gives to what turns name by numbers. Bytes are written as a report writes them.
use Rattle.std.specs.Prelude.{ℕ, ◌/◌, ◌%◌, ◌==◌, List, [], ◌++◌, codes, if◌then◌else◌, Option, Some, None, map, filter}
use Rattle.std.specs.List.{join_with_byte, range_with_len, slice_get}
use Rattle.boot_data.specs.declared.boot_plan.BootPlan.{BootPlan}
use Rattle.boot_data.specs.declared.plan.PlannedMover.{PlannedMover}
use Rattle.boot_data.specs.declared.plan.PlannedQueue.{PlannedQueue}
use Rattle.boot_data.specs.declared.plan.PlannedThread.{PlannedThread}
use Rattle.boot_data.specs.declared.plan.PlannedTty.{PlannedTty}
use Rattle.boot_data.specs.declared.plan.QueueIndex.{QueueIndex}
use Rattle.boot_data.specs.declared.plan.QueueIndex.TheVariants.{Small, Large}
use Rattle.boot_script.specs.Reports.{heard_text}
use Rattle.thread_table.specs.Answers.{is_in}

-- the name of a thread; it is empty if there is none
abbrev pub name_of_thread : Option PlannedThread → List ℕ
name_of_thread None = []
name_of_thread (Some thread) = thread.name

-- the name of a queue or pipe; it is empty if there is none
abbrev pub name_of_queue : Option PlannedQueue → List ℕ
name_of_queue None = []
name_of_queue (Some queue) = queue.name

-- the name of a tty; it is empty if there is none
abbrev pub name_of_tty : Option PlannedTty → List ℕ
name_of_tty None = []
name_of_tty (Some tty) = tty.name

-- the name of a pump or switch; it is empty if there is none
abbrev pub name_of_mover : Option PlannedMover → List ℕ
name_of_mover None = []
name_of_mover (Some mover) = mover.name

-- the name of a gauge; it is empty if there is none
abbrev pub name_of_gauge : Option (List ℕ) → List ℕ
name_of_gauge None = []
name_of_gauge (Some name) = name

-- the text of a thread, by its number
abbrev pub thread_text : BootPlan → ℕ → List ℕ
thread_text plan thread = heard_text (name_of_thread (slice_get plan.threads thread))

-- the names of the threads of a mask, of so many threads from this number on
unfoldable pub thread_names : BootPlan → ℕ → ℕ → ℕ → List (List ℕ)
thread_names plan mask number count = map (thread_text plan) (filter (is_in mask) (range_with_len number count))

-- the names of all threads of a mask, with a space between two
abbrev pub threads_text : BootPlan → ℕ → List ℕ
threads_text plan mask = join_with_byte 32 (thread_names plan mask 0 64)

-- the text of a pump or switch, by its number
abbrev pub mover_text : BootPlan → ℕ → List ℕ
mover_text plan mover = heard_text (name_of_mover (slice_get plan.movers mover))

-- the text of a gauge, by its number
abbrev pub gauge_text : BootPlan → ℕ → List ℕ
gauge_text plan gauge = heard_text (name_of_gauge (slice_get plan.gauges gauge))

-- which of a tty's queues it is
abbrev pub side_text : ℕ → List ℕ
side_text queue = if queue % 2 == 0 then codes ".line" else codes ".screen"

-- the text of a queue: its name, or that of its tty and which of the tty's queues it is
abbrev pub queue_text : BootPlan → QueueIndex → List ℕ
queue_text plan (Small queue) = heard_text (name_of_queue (slice_get plan.queues queue))
queue_text plan (Large queue) = heard_text (name_of_tty (slice_get plan.ttys (queue / 2))) ++ side_text queue
