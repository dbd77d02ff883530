-- The lines that a plan says, and the lines that the logs say of the plan.
use Rattle.std.specs.Prelude.{◌≡◌, ℕ, Bool, true, false, not, List, [], ◌∷◌, flat_map, count_by, Some, IsPermutation}
use Rattle.std.specs.List.{AllByRecursion}
use Rattle.boot_data.specs.declared.boot_plan.BootPlan.{BootPlan}
use Rattle.boot_data.specs.declared.plan.PlannedThread.{PlannedThread}
use Rattle.boot_data.specs.declared.plan.QueueIndex.{QueueIndex}
use Rattle.boot_data.specs.declared.plan.QueueIndex.TheVariants.{Small, Large}
use Rattle.boot_data.specs.declared.plan.Step.{Step}
use Rattle.boot_data.specs.declared.plan.Step.TheVariants as steps
use Rattle.boot_data.specs.declared.report.Report.{Report}
use Rattle.boot_data.specs.declared.report.ThreadLine.{ThreadLine}
use Rattle.boot_data.specs.declared.report.ThreadState.{ThreadState}
use Rattle.boot_data.specs.declared.report.ThreadState.TheVariants as states
use Rattle.turn_io.specs.Accounts.{only}
use Rattle.processor.specs.Entries.{LogEntry}
use Rattle.processor.specs.Logs.{sum_of, was_shut}
use Rattle.processor.specs.Programs.{step_of}
use Rattle.processor.specs.Queues.{said_line}
use Rattle.boot_laws.specs.Totals.{total_of}

-- the line that a step says to the queue
abbrev pub says_to : QueueIndex → Step → List (List ℕ)
says_to index (steps.Say queue text) = only [] queue (said_line text ∷ []) index
says_to index step = []

-- the lines of all steps of the plan that say to the queue
abbrev pub all_said : BootPlan → QueueIndex → List (List ℕ)
all_said plan index = flat_map (λ (thread : PlannedThread). flat_map (says_to index) thread.steps) plan.threads

-- no say and no hear of the logs reports that the queue is shut
abbrev pub IsNeverShut : QueueIndex → List (List LogEntry) → Type 0
IsNeverShut index logs = AllByRecursion (λ log. was_shut log index ≡ false) logs

-- no step of the logs shut the queue
abbrev pub IsLeftOpen : QueueIndex → List (List LogEntry) → Type 0
IsLeftOpen index logs = AllByRecursion (λ log. ((sum_of log).queues index).shuts ≡ 0) logs

-- the lines that the processors put in the queue are those of the plan's steps that say to it, each once
abbrev pub IsSaid : BootPlan → QueueIndex → List (List LogEntry) → Type 0
IsSaid plan index logs = IsPermutation ((total_of logs).queues index).put (all_said plan index)

-- no step of the plan shuts the queue; no step can shut a large one
abbrev pub IsNeverClosed : BootPlan → QueueIndex → Type 0
IsNeverClosed plan (Small q) = (thread number : ℕ) → step_of plan thread number ≡ Some (steps.Close q) → ⊥
IsNeverClosed plan (Large q) = Unit {0}

abbrev pub is_ended : ThreadState → Bool
is_ended states.Ended = true
is_ended state = false

-- a thread that has not ended is live
abbrev pub is_live : ThreadLine → Bool
is_live line = not (is_ended line.state)

-- how many threads of the report are live
abbrev pub live_threads : Report → ℕ
live_threads r = count_by is_live r.threads

-- no thread of the report is live
abbrev pub AllEnded : Report → Type 0
AllEnded r = live_threads r ≡ 0
