-- What a turn did, by its step, if it tried one.
use Rattle.boot_laws.proofs.Common.{Line, subst, ◌≡◌, inl, inr, ℕ, ◌+◌, Bool, true, false, List, [], ◌∷◌, ◌++◌, refl, sym, ap, ◌∙◌, Option, Some, None, if◌then◌else◌, BootPlan, QueueIndex, Step, AtQueue, idle_queue, queues_add, Tended, Begun, counted_step, retired, StepOutcome, TurnResult, TurnOutcome, SayAnswer, Woken, Account, ◌⊕◌, is_done, IsOutcomeOf, queues_by, heard_by, saw_shut, LogEntry, entry_account, tending, outcome_account, FollowsPlan, OutcomeFollows, turn_saw_shut, Key, step_of, said_line, ◌⊎◌, at_each, both_queue, each_adds, count_of, outcome_saw_shut}
use Rattle.boot_data.specs.declared.plan.Step.TheVariants as steps
use Rattle.processor.specs.declared.step_outcome.StepOutcome.TheVariants as step_outcomes
use Rattle.processor.specs.declared.outcome.TurnResult.TheVariants as hads
use Rattle.processor.specs.declared.outcome.TurnOutcome.TheVariants as outcomes
use Rattle.processor.proofs.Tallying.{raises_done}
use Rattle.processor.proofs.Trying.{gone_done}

-- what a turn did by its step: at the queues, the steps done and what was heard
abbrev pub Tried : Type 0
Tried = (QueueIndex → AtQueue) × List Key × List Line

abbrev pub tried_in : Account → Tried
tried_in a = (a.queues, a.hand.done, a.heard)

-- no step was tried
pub record Rests (t : Tried) (reported : QueueIndex → Bool) : Type 0 where
  pub queues : t.0 ≡ (λ q. idle_queue)
  pub done : t.1 ≡ []
  pub heard : t.2 ≡ []
  pub untold : (q : QueueIndex) → reported q ≡ false

-- the step of the plan that was tried
pub record Tries (plan : BootPlan) (t : Tried) (reported : QueueIndex → Bool) : Type 0 where
  pub element : ℕ
  pub number : ℕ
  pub step : Step
  pub step_outcome : StepOutcome
  pub line : List ℕ
  pub is : step_of plan element number ≡ Some step
  pub outcome_is : IsOutcomeOf step step_outcome line
  pub queues : t.0 ≡ queues_by step_outcome line
  pub done : t.1 ≡ (if is_done step_outcome then (element, number) ∷ [] else [])
  pub heard : t.2 ≡ heard_by step_outcome element number line
  pub told_is : reported ≡ saw_shut step_outcome

none_before : (f : QueueIndex → AtQueue) → at_each both_queue (λ q. idle_queue) f ≡ f
none_before = (each_adds queues_add).none_first

none_retired : (moved : Bool) (element number : ℕ) → (retired moved element number).done ≡ []
none_retired true element number = refl
none_retired false element number = refl

counted_one : (b : Bool) (element number : ℕ) → (counted_step (count_of b number) element number).done ≡ (if b then (element, number) ∷ [] else [])
counted_one true element number = refl
counted_one false element number = refl

append_none : (b : Bool) (k : Key) → (if b then k ∷ [] else []) ++ [] ≡ (if b then k ∷ [] else [])
append_none true k = refl
append_none false k = refl

module _ (plan : BootPlan) where
  by_had : (begun : Begun) (had : TurnResult) (line : List ℕ) → OutcomeFollows plan (outcomes.OfElement begun had) line
      → Rests (tried_in (outcome_account (outcomes.OfElement begun had) line)) (outcome_saw_shut (outcomes.OfElement begun had)) ⊎ Tries plan (tried_in (outcome_account (outcomes.OfElement begun had) line)) (outcome_saw_shut (outcomes.OfElement begun had))
  by_had begun (hads.Retired moved) line p = inl (record {
    queues = none_before (λ q. idle_queue);
    done = none_retired moved begun.element begun.number;
    heard = refl;
    untold = λ q. refl;
  })
  by_had begun (hads.Ran sent) line p = let d : StepOutcome = sent.tried.step_outcome in inr (record {
    element = begun.element;
    number = begun.number;
    step = p.step;
    step_outcome = d;
    line = line;
    is = p.is;
    outcome_is = p.step_outcome;
    queues = none_before (queues_by d line);
    done = (λ i. (raises_done d i ++ (counted_step (p.counts i) begun.element begun.number).done) ++ gone_done sent.moved begun.element (begun.number + 1) i)
        ∙ (ap (λ z. z ++ []) (counted_one (is_done d) begun.element begun.number) ∙ append_none (is_done d) (begun.element, begun.number));
    heard = refl;
    told_is = refl;
  })

  by_outcome : (outcome : TurnOutcome) (line : List ℕ) → OutcomeFollows plan outcome line
      → Rests (tried_in (outcome_account outcome line)) (outcome_saw_shut outcome) ⊎ Tries plan (tried_in (outcome_account outcome line)) (outcome_saw_shut outcome)
  by_outcome (outcomes.Idle idle) line p = inl (record { queues = refl; done = refl; heard = refl; untold = λ q. refl })
  by_outcome (outcomes.OfElement begun had) line p = by_had begun had line p

-- the tending of the alarms does none of this
none_tended : (t : Option Tended) (a : Account) → tried_in a ≡ tried_in (tending t ⊕ a)
none_tended None a = λ i. (sym (none_before a.queues) i, a.hand.done, a.heard)
none_tended (Some tended) a = λ i. (sym (none_before a.queues) i, a.hand.done, a.heard)

-- a turn either tried no step, or one of the plan
pub turn_is : (plan : BootPlan) (entry : LogEntry) → FollowsPlan plan entry
    → Rests (tried_in (entry_account entry)) (λ q. turn_saw_shut q entry) ⊎ Tries plan (tried_in (entry_account entry)) (λ q. turn_saw_shut q entry)
turn_is plan entry p = subst (λ (t : Tried). Rests t (λ q. turn_saw_shut q entry) ⊎ Tries plan t (λ q. turn_saw_shut q entry))
    (none_tended entry.tended (outcome_account entry.outcome entry.line)) (by_outcome plan entry.outcome entry.line p)

-- THE STEP OF A DEED

pub say_is : (step : Step) (queue : QueueIndex) (answer : SayAnswer) (line : List ℕ) → IsOutcomeOf step (step_outcomes.Say queue answer) line
    → (text : List ℕ) × (step ≡ steps.Say queue text) × (line ≡ said_line text)
say_is (steps.Say at text) queue answer line d = (text, ap (λ z. steps.Say z text) (sym d.0), d.1)
say_is step queue answer line d = absurd d

pub close_is : (step : Step) (queue : ℕ) (was_open : Bool) (readers writers : Option Woken) (line : List ℕ) → IsOutcomeOf step (step_outcomes.Close queue was_open readers writers) line → step ≡ steps.Close queue
close_is (steps.Close at) queue was_open readers writers line d = ap steps.Close (sym d.0)
close_is step queue was_open readers writers line d = absurd d
