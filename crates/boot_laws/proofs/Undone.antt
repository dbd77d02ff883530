-- A step that the plan hasn't was never done.
use Rattle.boot_laws.proofs.Common.{◌≡◌, ⊎_elim, ℕ, zero, suc, ◌≤◌, length, Bool, true, false, List, [], ◌∷◌, refl, sym, ap, ◌∙◌, arith, Some, None, count_by, if◌then◌else◌, ◌==◌, AllByRecursion, BootPlan, PlannedThread, Step, steps_at, is_done, LogEntry, FollowsPlan, entry_account, sum_of, program, same_key, plus, many_cons, many_more, by_bool, slice_get}
use Rattle.std.proofs.lemmas.Bool.{and_parts as both, eqb-true as eqb_is}
use Rattle.boot_laws.proofs.Entries.{turn_is}

pub no_program : (ts : List PlannedThread) (k : ℕ) → length ts ≤ k → steps_at ts k ≡ []
no_program [] k h = refl
no_program (t ∷ ts) zero h = absurd (omega arith)
no_program (t ∷ ts) (suc k) h = no_program ts k (omega arith)

module _ (plan : BootPlan) (x n : ℕ) (none : slice_get (program plan x) n ≡ None) where
  not_it : (element number : ℕ) (step : Step) (b : Bool) → slice_get (program plan element) number ≡ Some step
      → count_by (same_key (x, n)) (if b then (element, number) ∷ [] else []) ≡ 0
  not_it element number step false at = refl
  not_it element number step true at = let c = many_cons (same_key (x, n)) (element, number) [] in by_bool (same_key (x, n) (element, number))
      (λ is. let t = both (x == element) (n == number) is in
      let a : slice_get (program plan x) n ≡ Some step = (λ k. slice_get (program plan (eqb_is x element t.0 k)) (eqb_is n number t.1 k)) ∙ at in
      let z : None ≡ Some step = sym none ∙ a in absurd (cc))
      (λ isnt. let z : plus (same_key (x, n) (element, number)) ≡ 0 = ap plus isnt in omega arith)

  none_by : (entry : LogEntry) → FollowsPlan plan entry → count_by (same_key (x, n)) (entry_account entry).hand.done ≡ 0
  none_by entry p = ⊎_elim (λ r. ap (count_by (same_key (x, n))) r.done) (λ t. ap (count_by (same_key (x, n))) t.done ∙ not_it t.element t.number t.step (is_done t.step_outcome) t.is) (turn_is plan entry p)

  pub none_in : (log : List LogEntry) → AllByRecursion (FollowsPlan plan) log → count_by (same_key (x, n)) (sum_of log).hand.done ≡ 0
  none_in [] p = refl
  none_in (entry ∷ log) p = many_more (same_key (x, n)) (entry_account entry).hand.done (sum_of log).hand.done
      ∙ (let a = none_by entry p.0 in let b = none_in log p.1 in omega arith)
