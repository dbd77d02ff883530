-- The programs of a plan, and the steps of it that hear.
use Rattle.std.specs.Prelude.{◌≡◌, ℕ, ◌==◌, ◌&&◌, Bool, true, false, if◌then◌else◌, List, Option, Some}
use Rattle.std.specs.List.{slice_get, count_by, sum_by, list_any, AllByRecursion, IsDistinct}
use Rattle.boot_data.specs.Hearing.{Key}
use Rattle.boot_data.specs.declared.boot_plan.BootPlan.{BootPlan}
use Rattle.boot_data.specs.declared.plan.PlannedThread.{PlannedThread}
use Rattle.boot_data.specs.declared.plan.QueueIndex.TheVariants.{Large}
use Rattle.boot_data.specs.declared.plan.Step.{Step}
use Rattle.boot_data.specs.declared.plan.Step.TheVariants as steps
use Rattle.boot_data.specs.Plans.{steps_at}

-- the program of the thread with this number
abbrev pub program : BootPlan → ℕ → List Step
program plan thread = steps_at plan.threads thread

-- the step with this number of the thread's program, if there is one
abbrev pub step_of : BootPlan → ℕ → ℕ → Option Step
step_of plan thread number = slice_get (program plan thread) number

abbrev pub is_hear : Step → Bool
is_hear (steps.Hear queue) = true
is_hear step = false

-- how many steps of a thread hear
abbrev pub hears_in : PlannedThread → ℕ
hears_in thread = count_by is_hear thread.steps

-- how many steps of a plan hear
abbrev pub hear_count : BootPlan → ℕ
hear_count plan = sum_by hears_in plan.threads

-- the step hears from a large queue
abbrev pub hears_large : Step → Bool
hears_large (steps.Hear (Large queue)) = true
hears_large step = false

-- one of the thread's steps hears from a large queue
abbrev pub one_hears_large : PlannedThread → Bool
one_hears_large thread = list_any hears_large thread.steps

-- the most items of a line that a step of the plan can hear: 256 if one hears from a large queue, else 64
abbrev pub longest_line : BootPlan → ℕ
longest_line plan = if list_any one_hears_large plan.threads then 256 else 64

abbrev pub same_key : Key → Key → Bool
same_key a b = (a.0 == b.0) && (a.1 == b.1)

-- the step is one of the plan's, and hears
pub record IsHear (plan : BootPlan) (key : Key) : Type 0 where
  pub step : Step
  pub is : step_of plan key.0 key.1 ≡ Some step
  pub hears : is_hear step ≡ true

-- these are steps of the plan that hear, none of them twice
abbrev pub AreHears : BootPlan → List Key → Type 0
AreHears plan keys = AllByRecursion (IsHear plan) keys × IsDistinct same_key keys
