-- A queue that no step shuts was open for each say.
use Rattle.boot_laws.proofs.Common.{Done, ◌<◌, ◌≡◌, ⊎_elim, ℕ, Bool, true, List, [], ◌∷◌, refl, sym, ap, ◌∙◌, arith, Some, if◌then◌else◌, ◌==◌, AllByRecursion, BootPlan, QueueIndex, Small, Large, Step, AtQueue, idle_queue, put_if, taken_if, shut_if, StepOutcome, IsOutcomeOf, queues_by, LogEntry, FollowsPlan, entry_account, sum_of, was_shut, step_of, said, heard, WorkedTogether, IsNeverShut, total_of, by_bool, eqb-true, IsLeftOpen, IsNeverClosed, sum_on}
use Rattle.boot_data.specs.declared.plan.Step.TheVariants as steps
use Rattle.processor.specs.declared.step_outcome.StepOutcome.TheVariants as step_outcomes
use Rattle.boot_laws.proofs.Entries.{turn_is, close_is}
use Rattle.boot_laws.proofs.Only.{only_all}
use Rattle.boot_laws.proofs.Totals.{all_of, queue_did}

abbrev NeverShuts : AtQueue → Type 0
NeverShuts a = a.shuts ≡ 0

-- A QUEUE THAT NO LOG SHUTS

module _ (index : QueueIndex) where
  none_in_all : (logs : List (List LogEntry)) → IsLeftOpen index logs → NeverShuts ((total_of logs).queues index)
  none_in_all [] h = refl
  none_in_all (log ∷ logs) h = ap (λ a. (a.queues index).shuts) (sum_on log (all_of logs)) ∙ (let a = h.0 in let b = none_in_all logs h.1 in omega arith)

  none_told : (shuts : ℕ) (logs : List (List LogEntry)) → shuts ≡ 0 → AllByRecursion (λ log. was_shut log index ≡ true → 0 < shuts) logs → IsNeverShut index logs
  none_told shuts [] none reported = tt
  none_told shuts (log ∷ logs) none reported = (by_bool (was_shut log index) (λ is. absurd (let some = reported.0 is in omega arith)) (λ isnt. isnt), none_told shuts logs none reported.1)

  -- if the queue was left open, and each report that it is shut needs a processor's shut, no log has such a report
  pub never_shut : (plan : BootPlan) (logs : List (List LogEntry)) (done : Done) → WorkedTogether plan logs done
      → AllByRecursion (λ log. was_shut log index ≡ true → 0 < (done.in_all.queues index).shuts) logs → IsLeftOpen index logs → IsNeverShut index logs
  never_shut plan logs done w reported none = none_told (done.in_all.queues index).shuts logs (ap (λ (a : AtQueue). a.shuts) (queue_did plan logs done w index) ∙ none_in_all logs none) reported

-- A QUEUE THAT NO STEP OF THE PLAN SHUTS

if_other : (x : AtQueue) (a b : ℕ) → ((b ≡ a) → ⊥) → NeverShuts (if b == a then x else idle_queue)
if_other x a b other = by_bool (b == a) (λ is. absurd (other (eqb-true b a is))) (λ isnt. ap (λ (z : Bool). (if z then x else idle_queue).shuts) isnt)

module _ (plan : BootPlan) where
  by_step : (index : QueueIndex) (e n : ℕ) (step : Step) (step_outcome : StepOutcome) (line : List ℕ) → IsNeverClosed plan index → step_of plan e n ≡ Some step → IsOutcomeOf step step_outcome line → NeverShuts (queues_by step_outcome line index)
  by_step index e n step (step_outcomes.Say queue answer) line never is d = only_all NeverShuts idle_queue (put_if (said answer) line) refl refl queue index
  by_step index e n step (step_outcomes.Hear queue answer) line never is d = only_all NeverShuts idle_queue (taken_if (heard answer) line) refl refl queue index
  by_step (Small q) e n step (step_outcomes.Close queue was_open readers writers) line never is d =
      if_other (shut_if was_open) queue q (λ same. never e n (is ∙ (ap Some (close_is step queue was_open readers writers line d) ∙ ap (λ z. Some (steps.Close z)) (sym same))))
  by_step (Large q) e n step (step_outcomes.Close queue was_open readers writers) line never is d = refl
  by_step index e n step step_outcome line never is d = refl

  by_entry : (index : QueueIndex) (entry : LogEntry) → IsNeverClosed plan index → FollowsPlan plan entry → NeverShuts ((entry_account entry).queues index)
  by_entry index entry never p = ⊎_elim (λ r. ap (λ (f : QueueIndex → AtQueue). (f index).shuts) r.queues)
      (λ t. ap (λ (f : QueueIndex → AtQueue). (f index).shuts) t.queues ∙ by_step index t.element t.number t.step t.step_outcome t.line never t.is t.outcome_is) (turn_is plan entry p)

  by_log : (index : QueueIndex) (log : List LogEntry) → IsNeverClosed plan index → AllByRecursion (FollowsPlan plan) log → NeverShuts ((sum_of log).queues index)
  by_log index [] never p = refl
  by_log index (entry ∷ log) never p = let a = by_entry index entry never p.0 in let b = by_log index log never p.1 in omega arith

  pub left_open : (index : QueueIndex) (logs : List (List LogEntry)) → IsNeverClosed plan index → AllByRecursion (AllByRecursion (FollowsPlan plan)) logs → IsLeftOpen index logs
  left_open index [] never p = tt
  left_open index (log ∷ logs) never p = (by_log index log never p.0, left_open index logs never p.1)
