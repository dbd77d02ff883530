-- The queues of which each line is one say's: only threads use them, and each of their texts is one line.
use Rattle.std.specs.Prelude.{ℕ, ◌==◌, ◌&&◌, ◌||◌, Bool, false, length, nat_lt, not}
use Rattle.std.specs.List.{list_any}
use Rattle.boot_data.specs.declared.boot_plan.BootPlan.{BootPlan}
use Rattle.boot_data.specs.declared.plan.Mover.{Mover}
use Rattle.boot_data.specs.declared.plan.Mover.TheVariants.{Pump, Switch}
use Rattle.boot_data.specs.declared.plan.QueueIndex.{QueueIndex}
use Rattle.boot_data.specs.declared.plan.QueueIndex.TheVariants.{Small, Large}
use Rattle.boot_data.specs.declared.plan.Step.{Step}
use Rattle.boot_data.specs.declared.plan.Step.TheVariants.{Say}

-- two names are of one queue
abbrev pub is_same_queue : QueueIndex → QueueIndex → Bool
is_same_queue (Small one) (Small other) = one == other
is_same_queue (Large one) (Large other) = one == other
is_same_queue one other = false

-- a pump or switch takes lines from the queue with this number, or puts lines into it
abbrev pub is_moved_by : ℕ → Mover → Bool
is_moved_by queue (Pump from to) = from == queue || to == queue
is_moved_by queue (Switch from other ways) =
    from == queue || other == queue || list_any (λ way. way.to == queue) ways

-- only threads put lines into this queue, and take lines from it: it is a queue or pipe of the plan, and no tty's queue,
-- and no pump or switch moves its lines
abbrev pub is_of_threads : BootPlan → QueueIndex → Bool
is_of_threads plan (Small queue) =
    nat_lt queue (length plan.queues) && not (list_any (λ planned. is_moved_by queue planned.mover) plan.movers)
is_of_threads plan (Large queue) = false

-- the step says several lines at once into the queue: its text has a 0x0A before the one that ends the line
abbrev pub says_lines : QueueIndex → Step → Bool
says_lines queue (Say other text) = is_same_queue other queue && list_any (λ byte. byte == 10) text
says_lines queue step = false

-- each text that the threads say into the queue is one line
abbrev pub has_single_lines : BootPlan → QueueIndex → Bool
has_single_lines plan queue = not (list_any (λ thread. list_any (says_lines queue) thread.steps) plan.threads)
