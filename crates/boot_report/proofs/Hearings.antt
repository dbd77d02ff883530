-- The lines that were heard are no more than the steps of the plan that hear.
use Rattle.boot_report.proofs.Common.{◌≡◌, ℕ, ◌≤◌, true, List, [], ◌∷◌, ◌++◌, length, map, refl, sym, ap, subst, arith, Some, length-map, BootPlan, LogEntry, Key, hear_count, Line, ClosedTables, WorkedTogether, ThreadsEnded, Bool, false, Option, None, count_by, AllByRecursion, IsDistinct, map-append, Tended, tending, having, outcome_account, entry_account, TurnResultFollows, OutcomeFollows, FollowsPlan, IsHear, same_key, is_hear, step_of, Done, plus, by_bool, many_cons}
use Rattle.boot_data.specs.declared.plan.Step.{Step}
use Rattle.boot_data.specs.declared.plan.Step.TheVariants as steps
use Rattle.processor.specs.declared.step_outcome.StepOutcome.{StepOutcome}
use Rattle.processor.specs.declared.step_outcome.StepOutcome.TheVariants as step_outcomes
use Rattle.processor.specs.declared.outcome.TurnResult.{TurnResult}
use Rattle.processor.specs.declared.outcome.TurnResult.TheVariants as hads
use Rattle.processor.specs.declared.outcome.TurnOutcome.{TurnOutcome}
use Rattle.processor.specs.declared.outcome.TurnOutcome.TheVariants as outcomes
use Rattle.processor.specs.declared.phases.HearAnswer.{HearAnswer}
use Rattle.processor.specs.declared.phases.HearAnswer.TheVariants as hears
use Rattle.processor.specs.Accounts.{Account, ◌⊕◌}
use Rattle.processor.specs.Outcomes.{IsOutcomeOf}
use Rattle.processor.specs.Doings.{heard_by}
use Rattle.processor.specs.Logs.{sum_of}
use Rattle.processor.specs.Rooms.{key_of}
use Rattle.processor.proofs.Rooms.{few, same_refl as itself}
use Rattle.boot_laws.specs.Totals.{total_of}
use Rattle.boot_laws.proofs.Boots.Sorting.{heard_few, once_most}
use Rattle.boot_laws.proofs.Totals.{all_of, all_did, all_planned}
use Rattle.event_theory.proofs.Lists.Placed.{all_append as both}

abbrev is_of : Key → Line → Bool
is_of k line = same_key k line.0

-- NONE TWICE

none_of : (k : Key) (lines : List Line) → count_by (is_of k) lines ≡ 0 → AllByRecursion (λ y. same_key k y ≡ false) (map key_of lines)
none_of k [] h = tt
none_of k (l ∷ ls) h = let c = many_cons (is_of k) l ls in by_bool (is_of k l)
    (λ up. let a : plus (is_of k l) ≡ 1 = ap plus up in absurd (omega arith))
    (λ low. let a : plus (is_of k l) ≡ 0 = ap plus low in (low, none_of k ls (omega arith)))

distinct : (lines : List Line) → ((k : Key) → count_by (is_of k) lines ≤ 1) → IsDistinct same_key (map key_of lines)
unfolding IsDistinct
distinct [] h = tt
distinct (l ∷ ls) h =
    let c = many_cons (is_of l.0) l ls in let a : plus (is_of l.0 l) ≡ 1 = ap plus (itself l.0) in let m = h l.0 in
    (none_of l.0 ls (omega arith), distinct ls (λ k. let d = many_cons (is_of k) l ls in let n = h k in omega arith))

-- EACH HEARS

abbrev AllHear : BootPlan → List Line → Type 0
AllHear plan lines = AllByRecursion (IsHear plan) (map key_of lines)

both_hear : (plan : BootPlan) (a b : List Line) → AllHear plan a → AllHear plan b → AllHear plan (a ++ b)
both_hear plan a b h k = subst (AllByRecursion (IsHear plan)) (sym (map-append key_of a b)) (both (IsHear plan) (map key_of a) (map key_of b) h k)

hears_one : (step : Step) (queue : _) (answer : HearAnswer) (line : List ℕ) → IsOutcomeOf step (step_outcomes.Hear queue answer) line → is_hear step ≡ true
hears_one (steps.Hear at) queue answer line h = refl
hears_one step queue answer line h = absurd h

by_step_outcome : (plan : BootPlan) (element number : ℕ) (step : Step) (step_outcome : StepOutcome) (line : List ℕ) → step_of plan element number ≡ Some step → IsOutcomeOf step step_outcome line → AllHear plan (heard_by step_outcome element number line)
by_step_outcome plan element number step (step_outcomes.Hear queue (hears.Taken woken)) line is its = (record { step = step; is = is; hears = hears_one step queue (hears.Taken woken) line its }, tt)
by_step_outcome plan element number step step_outcome line is its = tt

by_had : (plan : BootPlan) (element number : ℕ) (had : TurnResult) (line : List ℕ) → TurnResultFollows plan element number had line → AllHear plan (having element number had line).heard
by_had plan element number (hads.Retired moved) line h = tt
by_had plan element number (hads.Ran sent) line h = by_step_outcome plan element number h.step sent.tried.step_outcome line h.is h.step_outcome

by_outcome : (plan : BootPlan) (outcome : TurnOutcome) (line : List ℕ) → OutcomeFollows plan outcome line → AllHear plan (outcome_account outcome line).heard
by_outcome plan (outcomes.Idle idle) line h = tt
by_outcome plan (outcomes.OfElement begun had) line h = by_had plan begun.element begun.number had line h

none_heard : (tended : Option Tended) (more : Account) → (tending tended ⊕ more).heard ≡ more.heard
none_heard None more = refl
none_heard (Some tended) more = refl

by_entry : (plan : BootPlan) (entry : LogEntry) → FollowsPlan plan entry → AllHear plan (entry_account entry).heard
by_entry plan entry h = subst (AllHear plan) (sym (none_heard entry.tended (outcome_account entry.outcome entry.line))) (by_outcome plan entry.outcome entry.line h)

by_log : (plan : BootPlan) (log : List LogEntry) → AllByRecursion (FollowsPlan plan) log → AllHear plan (sum_of log).heard
by_log plan [] h = tt
by_log plan (entry ∷ log) h = both_hear plan (entry_account entry).heard (sum_of log).heard (by_entry plan entry h.0) (by_log plan log h.1)

-- ALL

module _ (plan : BootPlan) (logs : List (List LogEntry)) (done : Done) (worked : WorkedTogether plan logs done) (c : ClosedTables) (e : ThreadsEnded done.in_all c) where
  pub few_heard : length done.in_all.heard ≤ hear_count plan
  few_heard =
      let all : List Line = (total_of logs).heard in
      let planned = all_planned plan logs worked.planned in
      let once : (k : Key) → count_by (is_of k) all ≤ 1 = λ k. let a = heard_few k plan (all_of logs) planned in let b = once_most plan logs done worked c e k.0 k.1 in omega arith in
      let most = few plan (map key_of all) (by_log plan (all_of logs) planned, distinct all once) in
      let long = length-map all key_of in let same = ap (λ (a : Account). length a.heard) (all_did plan logs done worked) in omega arith
