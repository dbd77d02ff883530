-- A line that was heard is no longer than the longest that a plan's steps can hear.
use Rattle.processor.proofs.Common.{◌≡◌, ◌≤◌, ℕ, zero, suc, ◌||◌, Bool, true, false, if◌then◌else◌, List, [], ◌∷◌, length, Some, sym, ap, ◌∙◌, arith, BootPlan, PlannedThread, Small, Large, Step, steps_at, step_of, StepOutcome, IsOutcomeOf, is_heard, same_Some, slice_get, list_any, QueueEnds, heard_few, hears_large, one_hears_large, longest_line, QueuesDid}
use Rattle.std.proofs.Math.Bool.{or-true as or_true}
use Rattle.boot_data.specs.declared.plan.Step.TheVariants as steps
use Rattle.processor.specs.declared.step_outcome.StepOutcome.TheVariants as step_outcomes
use Rattle.processor.specs.declared.phases.HearAnswer.TheVariants as answers

in_steps : (steps : List Step) (n : ℕ) (step : Step) → slice_get steps n ≡ Some step → hears_large step ≡ true → list_any hears_large steps ≡ true
in_steps [] n step is h = cc
in_steps (s ∷ steps) zero step is h = ap (λ b. b || list_any hears_large steps) (ap hears_large (same_Some s step is) ∙ h)
in_steps (s ∷ steps) (suc n) step is h = ap (λ b. hears_large s || b) (in_steps steps n step is h) ∙ or_true (hears_large s)

in_threads : (threads : List PlannedThread) (e n : ℕ) (step : Step) → slice_get (steps_at threads e) n ≡ Some step → hears_large step ≡ true → list_any one_hears_large threads ≡ true
in_threads [] e n step is h = cc
in_threads (t ∷ threads) zero n step is h = ap (λ b. b || list_any one_hears_large threads) (in_steps t.steps n step is h)
in_threads (t ∷ threads) (suc e) n step is h = ap (λ b. one_hears_large t || b) (in_threads threads e n step is h) ∙ or_true (one_hears_large t)

at_least : (b : Bool) → 64 ≤ (if b then 256 else 64)
at_least true = omega arith
at_least false = omega arith

as_large : (b : Bool) → b ≡ true → 256 ≤ (if b then 256 else 64)
as_large true is = omega arith
as_large false is = cc

pub heard_within : (plan : BootPlan) (e n : ℕ) (step : Step) (step_outcome : StepOutcome) (text : List ℕ) (old new : QueueEnds) → step_of plan e n ≡ Some step → IsOutcomeOf step step_outcome text
    → QueuesDid step_outcome text old new → is_heard step_outcome ≡ true → length text ≤ longest_line plan
heard_within plan e n (steps.Hear queue) (step_outcomes.Hear (Small at) (answers.Taken woken)) text old new is d did heard =
    let long = heard_few (Small at) text old new did in
    let most = at_least (list_any one_hears_large plan.threads) in
    omega (arith, long.1, most)
heard_within plan e n (steps.Hear queue) (step_outcomes.Hear (Large at) (answers.Taken woken)) text old new is d did heard =
    let long = heard_few (Large at) text old new did in
    let large : hears_large (steps.Hear queue) ≡ true = ap (λ z. hears_large (steps.Hear z)) (sym d.0) in
    let most = as_large (list_any one_hears_large plan.threads) (in_threads plan.threads e n (steps.Hear queue) is large) in
    omega (arith, long.1, most)
heard_within plan e n step (step_outcomes.Hear at (answers.Refused unheard)) text old new is d did heard = cc
heard_within plan e n step (step_outcomes.Hear at (answers.Taken woken)) text old new is d did heard = absurd d
heard_within plan e n step step_outcome text old new is d did heard = cc
