-- No processor, pump or switch puts in a tty's raw queue.
use Rattle.boot_laws.proofs.Common.{◌≡◌, ⊎_elim, ℕ, zero, suc, ◌+◌, ◌<◌, ◌≤◌, Bool, List, [], ◌∷◌, ◌++◌, map, length, refl, sym, ap, ◌∙◌, subst, arith, append-nil, Some, eq-eqb, ne_eqb, le_prop, ∥∥₁_elim, if◌then◌else◌, AllByRecursion, BootPlan, Mover, PlannedThread, QueueIndex, Small, Large, Step, plan_of, steps_at, IsPlan, IsMoverOf, many_of, QueueEnd, AtQueue, idle_queue, put_if, shut_if, taken_if, StepOutcome, IsOutcomeOf, queues_by, LogEntry, FollowsPlan, entry_account, sum_of, program, step_of, said, heard, AnyQuaject, runs_of, Batch, all_at, IsMover, device_at, slice_get, Plan, IsProgramOf, IsStepOf, IsWayOf, view_of, line_of, joined}
use Rattle.boot_data.specs.declared.plan.Mover.TheVariants as movers
use Rattle.boot_data.specs.declared.plan.Step.TheVariants as steps
use Rattle.boot_data.specs.declared.plan.Way.{Way as PlannedWay}
use Rattle.processor.specs.declared.step_outcome.StepOutcome.TheVariants as step_outcomes
use Rattle.quajects.specs.declared.any.AnyQuaject.TheVariants as any
use Rattle.turn_io.proofs.Shares.{none_of as no_lines}
use Rattle.boot_laws.proofs.Entries.{turn_is, say_is}
use Rattle.boot_laws.proofs.Only.{only_all}
use Rattle.boot_laws.proofs.Queues.Takings.{of_ends, of_next, elsewhere, no_device, IsBelow}

-- THE PLAN SAYS NOTHING TO A RAW QUEUE

its_steps : (plan : Plan) (threads : List PlannedThread) (e : ℕ) → AllByRecursion (IsProgramOf (many_of plan)) threads → AllByRecursion (IsStepOf (many_of plan)) (steps_at threads e)
its_steps plan [] e all = tt
its_steps plan (t ∷ ts) zero all = all.0.1
its_steps plan (t ∷ ts) (suc e) all = its_steps plan ts e all.1

said_below : (plan : BootPlan) (e n queue : ℕ) (text : List ℕ) → step_of plan e n ≡ Some (steps.Say (Small queue) text) → queue < length plan.queues
said_below plan e n queue text is = ∥∥₁_elim plan.within le_prop (λ (h : IsPlan (plan_of plan)).
    all_at (IsStepOf (many_of (plan_of plan))) (program plan e) n (steps.Say (Small queue) text) (its_steps (plan_of plan) plan.threads e h.programs) is)

module _ (plan : BootPlan) (number : ℕ) (far : length plan.queues ≤ number) where
  abbrev PutsNone : AtQueue → Type 0
  PutsNone a = a.put ≡ []

  none_by_step : (e n : ℕ) (step : Step) (step_outcome : StepOutcome) (line : List ℕ) → step_of plan e n ≡ Some step → IsOutcomeOf step step_outcome line → PutsNone (queues_by step_outcome line (Small number))
  none_by_step e n step (step_outcomes.Say (Small queue) answer) line is d = let s = say_is step (Small queue) answer line d in let low = said_below plan e n queue s.0 (is ∙ ap Some s.1) in
      ap (λ (b : Bool). (if b then put_if (said answer) line else idle_queue).put) (ne_eqb number queue (λ z. omega arith))
  none_by_step e n step (step_outcomes.Say (Large queue) answer) line is d = refl
  none_by_step e n step (step_outcomes.Hear queue answer) line is d = only_all PutsNone idle_queue (taken_if (heard answer) line) refl refl queue (Small number)
  none_by_step e n step (step_outcomes.Close queue was_open readers writers) line is d = only_all PutsNone idle_queue (shut_if was_open) refl refl (Small queue) (Small number)
  none_by_step e n step step_outcome line is d = refl

  none_by_entry : (entry : LogEntry) → FollowsPlan plan entry → PutsNone ((entry_account entry).queues (Small number))
  none_by_entry entry p = ⊎_elim (λ r. ap (λ (f : QueueIndex → AtQueue). (f (Small number)).put) r.queues)
      (λ t. ap (λ (f : QueueIndex → AtQueue). (f (Small number)).put) t.queues ∙ none_by_step t.element t.number t.step t.step_outcome t.line t.is t.outcome_is) (turn_is plan entry p)

  none_put : (log : List LogEntry) → AllByRecursion (FollowsPlan plan) log → PutsNone ((sum_of log).queues (Small number))
  none_put [] p = refl
  none_put (entry ∷ log) p = λ k. none_by_entry entry p.0 k ++ none_put log p.1 k

  -- no processor claimed a place in a raw queue
  pub none_claimed : (own : List (List Batch)) (logs : List (List LogEntry)) → AllByRecursion (AllByRecursion (FollowsPlan plan)) logs
      → map (map line_of) own ≡ map (λ log. ((sum_of log).queues (Small number)).put) logs → joined own ≡ []
  none_claimed [] logs p e = refl
  none_claimed (x ∷ own) [] p e = absurd (cc)
  none_claimed (x ∷ own) (log ∷ logs) p e =
      let its : map line_of x ≡ ((sum_of log).queues (Small number)).put = cc in let rest : map (map line_of) own ≡ map (λ log. ((sum_of log).queues (Small number)).put) logs = cc in
      λ k. no_lines x (its ∙ none_put log p.0) k ++ none_claimed own logs p.1 rest k

-- PUMPS AND SWITCHES STAY AT THE PLAN'S QUEUES

ways_below : (plan : Plan) (ways : List PlannedWay) → AllByRecursion (IsWayOf (many_of plan)) ways → AllByRecursion (λ (r : ℕ × ℕ). r.1 < length plan.queues) (map (λ way. (way.key, way.to)) ways)
ways_below plan [] h = tt
ways_below plan (w ∷ ways) h = (h.0, ways_below plan ways h.1)

pub stays_below : (plan : Plan) (mover : Mover) (quaject : AnyQuaject) → IsMover mover quaject → IsMoverOf (many_of plan) mover → IsBelow (length plan.queues) quaject
stays_below plan (movers.Pump from to) (any.Pump pump) its h = let a = h.0 in let b = h.1 in let c = its.0 in let d = its.1 in ((omega arith), (omega arith))
stays_below plan (movers.Pump from to) (any.Cooked tty) its h = tt
stays_below plan (movers.Pump from to) (any.Switch switch) its h = absurd its
stays_below plan (movers.Switch from other ways) (any.Switch switch) its h = let a = h.0 in let b = h.1 in let c = its.0 in let d = its.1 in
    ((omega arith), (omega arith), subst (AllByRecursion (λ (r : ℕ × ℕ). r.1 < length plan.queues)) (sym its.2) (ways_below plan ways h.2))
stays_below plan (movers.Switch from other ways) (any.Cooked tty) its h = tt
stays_below plan (movers.Switch from other ways) (any.Pump pump) its h = absurd its

-- DEVICES

pub its_device : (number raw tty : ℕ) (ends : List (QueueEnd 64)) (end : QueueEnd 64) → number ≡ raw + tty → slice_get ends tty ≡ Some end
    → of_ends runs_of (device_at (Small number) raw ends) ≡ runs_of (view_of end)
its_device number raw tty [] end is at = absurd (cc)
its_device number raw zero (x ∷ ends) end is at = let same : x ≡ end = cc in
    of_next runs_of raw number x (device_at (Small number) (raw + 1) ends)
    ∙ ((λ k. (if eq-eqb number raw (omega arith) k then runs_of (view_of (same k)) else []) ++ no_device runs_of number (raw + 1) ends (omega arith) k) ∙ append-nil (runs_of (view_of end)))
its_device number raw (suc tty) (x ∷ ends) end is at =
    elsewhere runs_of raw number x (device_at (Small number) (raw + 1) ends) (λ e. omega arith) ∙ its_device number (raw + 1) tty ends end (omega arith) at
