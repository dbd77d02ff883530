-- The line as which a text is said, and the wait queues of a queue.
use Rattle.std.specs.Prelude.{ℕ, List, [], ◌∷◌, ◌++◌, Option, Some, None}
use Rattle.std.specs.List.{slice_get}
use Rattle.boot_data.specs.declared.boot_plan.BootPlan.{BootPlan}
use Rattle.boot_data.specs.declared.plan.PipeWaits.{PipeWaits}
use Rattle.boot_data.specs.declared.plan.PlannedQueue.{PlannedQueue}
use Rattle.boot_data.specs.declared.plan.QueueIndex.{QueueIndex}
use Rattle.boot_data.specs.declared.plan.QueueIndex.TheVariants.{Small, Large}

-- the text followed by 0x0A, as one line
abbrev pub said_line : List ℕ → List ℕ
said_line text = text ++ 10 ∷ []

abbrev pub waits_in : Option PlannedQueue → Option PipeWaits
waits_in None = None
waits_in (Some queue) = queue.waits

-- the wait queues of a queue, if it is a pipe
abbrev pub waits_at : BootPlan → QueueIndex → Option PipeWaits
waits_at plan (Small queue) = waits_in (slice_get plan.queues queue)
waits_at plan (Large queue) = None
