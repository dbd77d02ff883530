-- No step is heard twice, so heard lines that ascend by thread and step do so strictly.
use Rattle.boot_laws.proofs.Common.{Done, ◌≡◌, ⊎_elim, inl, inr, ℕ, zero, suc, ◌<◌, ◌≤◌, Bool, true, false, eq-eqb, List, [], ◌∷◌, length, refl, ap, ◌∙◌, arith, Some, count_by, IsPermutation, if◌then◌else◌, ◌&&◌, nat_lt, slice_index_or, AllByRecursion, le_prop, ∥∥₁_elim, dite, dec_lt, BootPlan, Step, plan_of, IsPlan, StepOutcome, is_done, heard_by, LogEntry, FollowsPlan, entry_account, sum_of, Key, same_key, Line, ClosedTables, WorkedTogether, ThreadsEnded, Ascend, total_of, plus, many_cons, many_more, slice_get, AreSorted, many_shuffled}
use Rattle.processor.specs.declared.step_outcome.StepOutcome.TheVariants as step_outcomes
use Rattle.processor.specs.declared.phases.HearAnswer.TheVariants as hears
use Rattle.boot_laws.proofs.Entries.{turn_is}
use Rattle.boot_laws.proofs.Threads.{once}
use Rattle.boot_laws.proofs.Totals.{all_of, all_planned}
use Rattle.boot_laws.proofs.Undone.{none_in, no_program}

module _ {A : Type 0} (p : A → Bool) where
  one_of : (xs : List A) (i : ℕ) (a : A) → slice_get xs i ≡ Some a → p a ≡ true → 1 ≤ count_by p xs
  one_of [] i a at up = absurd (cc)
  one_of (x ∷ xs) zero a at up = let same : x ≡ a = cc in let one : plus (p x) ≡ 1 = ap (λ z. plus (p z)) same ∙ ap plus up in let c = many_cons p x xs in omega arith
  one_of (x ∷ xs) (suc i) a at up = let h = one_of xs i a at up in let c = many_cons p x xs in omega arith

  two_of : (xs : List A) (i j : ℕ) (a b : A) → slice_get xs i ≡ Some a → slice_get xs j ≡ Some b → i < j → p a ≡ true → p b ≡ true → 2 ≤ count_by p xs
  two_of [] i j a b at at' low up up' = absurd (cc)
  two_of (x ∷ xs) zero zero a b at at' low up up' = absurd (omega arith)
  two_of (x ∷ xs) zero (suc j) a b at at' low up up' =
      let same : x ≡ a = cc in let one : plus (p x) ≡ 1 = ap (λ z. plus (p z)) same ∙ ap plus up in let h = one_of xs j b at' up' in let c = many_cons p x xs in omega arith
  two_of (x ∷ xs) (suc i) zero a b at at' low up up' = absurd (omega arith)
  two_of (x ∷ xs) (suc i) (suc j) a b at at' low up up' = let h = two_of xs i j a b at at' (omega arith) up up' in let c = many_cons p x xs in omega arith

module _ (k : Key) where
  abbrev is_of : Line → Bool
  is_of line = same_key k line.0

  by_step_outcome : (step_outcome : StepOutcome) (element number : ℕ) (line : List ℕ) → count_by is_of (heard_by step_outcome element number line) ≤ count_by (same_key k) (if is_done step_outcome then (element, number) ∷ [] else [])
  by_step_outcome (step_outcomes.Hear queue (hears.Taken woken)) element number line =
      let a = many_cons is_of ((element, number), line) [] in let b = many_cons (same_key k) (element, number) [] in omega arith
  by_step_outcome (step_outcomes.Hear queue answer) element number line = omega arith
  by_step_outcome step_outcome element number line = omega arith

  by_entry : (plan : BootPlan) (entry : LogEntry) → FollowsPlan plan entry → count_by is_of (entry_account entry).heard ≤ count_by (same_key k) (entry_account entry).hand.done
  by_entry plan entry p = ⊎_elim (λ r. let a = ap (count_by is_of) r.heard in omega arith)
      (λ t. let a = ap (count_by is_of) t.heard in let b = ap (count_by (same_key k)) t.done in let c = by_step_outcome t.step_outcome t.element t.number t.line in omega arith) (turn_is plan entry p)

  pub heard_few : (plan : BootPlan) (log : List LogEntry) → AllByRecursion (FollowsPlan plan) log → count_by is_of (sum_of log).heard ≤ count_by (same_key k) (sum_of log).hand.done
  heard_few plan [] p = omega arith
  heard_few plan (entry ∷ log) p = let a = by_entry plan entry p.0 in let b = heard_few plan log p.1 in
      let c = many_more is_of (entry_account entry).heard (sum_of log).heard in let d = many_more (same_key k) (entry_account entry).hand.done (sum_of log).hand.done in omega arith

one_most : (b : Bool) → ◌≤◌ (if b then 1 else 0) 1
one_most true = omega arith
one_most false = omega arith

module _ (plan : BootPlan) (logs : List (List LogEntry)) (done : Done) (w : WorkedTogether plan logs done) (c : ClosedTables) (e : ThreadsEnded done.in_all c) where
  planned : AllByRecursion (FollowsPlan plan) (all_of logs)
  planned = all_planned plan logs w.planned

  pub once_most : (x n : ℕ) → count_by (same_key (x, n)) (total_of logs).hand.done ≤ 1
  once_most x n = dite (dec_lt x 64)
      (λ low. let h = once plan logs done w c e x n low in let m = one_most (nat_lt n (slice_index_or e.reported.pcs x 0)) in omega arith)
      (λ high. let few : length plan.threads ≤ 64 = ∥∥₁_elim plan.within le_prop (λ (h : IsPlan (plan_of plan)). h.threads) in
      let z = none_in plan x n (ap (λ (l : List Step). slice_get l n) (no_program plan.threads x (omega (arith, high)))) (all_of logs) planned in omega arith)

  -- ascending lines are in strictly ascending order
  pub sorted : (heard : List Line) → IsPermutation (total_of logs).heard heard → Ascend heard → AreSorted heard
  sorted heard all up i j a b at at' low = ⊎_elim (λ l. inl l) (λ r. inr (r.0, dite (dec_lt a.0.1 b.0.1) (λ less. less) (λ more. absurd (twice r.0 (let m = r.1 in omega arith))))) (up i j a b at at' low)
    where
      twice : a.0.0 ≡ b.0.0 → a.0.1 ≡ b.0.1 → ⊥
      twice same same' =
          let k : Key = (a.0.0, a.0.1) in
          let is : same_key k a.0 ≡ true = λ i. eq-eqb a.0.0 a.0.0 refl i && eq-eqb a.0.1 a.0.1 refl i in
          let is' : same_key k b.0 ≡ true = λ i. eq-eqb a.0.0 b.0.0 same i && eq-eqb a.0.1 b.0.1 same' i in
          let two = two_of (λ (line : Line). same_key k line.0) heard i j a b at at' low is is' in
          let all_same = many_shuffled (λ (line : Line). same_key k line.0) (total_of logs).heard heard all in
          let few = heard_few k plan (all_of logs) planned in let most = once_most a.0.0 a.0.1 in absurd (omega arith)
