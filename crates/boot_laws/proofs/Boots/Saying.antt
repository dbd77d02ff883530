-- If all steps were done, the lines said are those of the plan.
use Rattle.boot_laws.proofs.Common.{◌≡◌, ◌≢◌, ⊎_elim, ℕ, zero, suc, ◌+◌, ◌<◌, Bool, true, false, eqb, eq-eqb, ne_eqb, List, [], ◌∷◌, ◌++◌, map, length, refl, sym, ap, ◌∙◌, subst, arith, Option, Some, None, append_assoc, append-nil, flat_map, count_by, IsPermutation, if◌then◌else◌, ◌&&◌, ◌||◌, ◌==◌, nat_lt, not, range_with_len, AllByRecursion, list_any-append, leb_tells, flat_map-append, dite, dec_lt, BootPlan, PlannedThread, QueueIndex, Small, Step, Report, Place, AtQueue, idle_queue, only, put_if, shut_if, taken_if, StepOutcome, SayAnswer, is_done, IsOutcomeOf, queues_by, saw_shut, LogEntry, FollowsPlan, entry_account, turn_saw_shut, sum_of, was_shut, Key, same_key, program, step_of, said_line, Line, said, heard, PlaceAgrees, ClosedTables, IsReport, IsNeverShut, total_of, by_bool, plus, many_cons, many_more, slice_get, IsPermutation-refl, IsPermutation-trans, IsPermutation-append_comm, IsPermutation-append_left, IsPermutation-append_right, steps_in, state_for, says_to, all_said, IsSaid, AllEnded, is_ended, is_live, find_it, range_in, range_far}
use Rattle.std.proofs.lemmas.Bool.{eqb-true as eqb_is, and_parts as both, or_parts as or_false}
use Rattle.boot_data.specs.declared.plan.Step.TheVariants as steps
use Rattle.boot_data.specs.declared.report.ThreadLine.{ThreadLine}
use Rattle.boot_data.specs.declared.report.ThreadState.{ThreadState}
use Rattle.boot_data.specs.declared.report.ThreadState.TheVariants as states
use Rattle.thread_table.specs.declared.places.Place.TheVariants as places
use Rattle.processor.specs.declared.step_outcome.StepOutcome.TheVariants as step_outcomes
use Rattle.processor.specs.declared.phases.SayAnswer.TheVariants as says
use Rattle.processor.proofs.Rooms.{same_refl as key_itself}
use Rattle.event_theory.proofs.Lists.Placed.{there as there_is}
use Rattle.boot_laws.proofs.Entries.{turn_is, say_is}
use Rattle.boot_laws.proofs.Only.{only_all, only_map, only_off}
use Rattle.boot_laws.proofs.Totals.{all_of, all_planned}
use Rattle.boot_laws.proofs.Undone.{none_in, no_program}

module _ {A B : Type 0} (f : A → List B) where
  -- if an entry moves to the front, its results move to the front
  to_front : (front : List A) (x : A) (back : List A) → IsPermutation (flat_map f (front ++ x ∷ back)) (f x ++ flat_map f (front ++ back))
  to_front front x back =
      let a : List B = flat_map f front in let c : List B = flat_map f back in
      let from : flat_map f (front ++ x ∷ back) ≡ (a ++ f x) ++ c = flat_map-append f front (x ∷ back) ∙ sym (append_assoc a (f x) c) in
      let to : (f x ++ a) ++ c ≡ f x ++ flat_map f (front ++ back) = append_assoc (f x) a c ∙ ap (λ z. f x ++ z) (sym (flat_map-append f front back)) in
      subst (λ z. IsPermutation z (f x ++ flat_map f (front ++ back))) (sym from)
      (subst (λ z. IsPermutation ((a ++ f x) ++ c) z) to (IsPermutation-append_left c (a ++ f x) (f x ++ a) (IsPermutation-append_comm a (f x))))

  -- lists in which each entry is equally often give the same
  same_gives : (same : A → A → Bool) → ((a b : A) → same a b ≡ true → a ≡ b) → ((a : A) → same a a ≡ true)
      → (xs ys : List A) → ((x : A) → count_by (same x) xs ≡ count_by (same x) ys) → IsPermutation (flat_map f ys) (flat_map f xs)
  same_gives same reports itself [] [] h = IsPermutation-refl []
  same_gives same reports itself [] (y ∷ ys) h =
      let c = many_cons (same y) y ys in let a : plus (same y y) ≡ 1 = ap plus (itself y) in let e = h y in absurd (omega arith)
  same_gives same reports itself (x ∷ xs) ys h =
      let c = many_cons (same x) x xs in let a : plus (same x x) ≡ 1 = ap plus (itself x) in let e = h x in
      let g = find_it (same x) ys (omega arith) in
      let it : x ≡ g.it = reports x g.it g.passes in
      let is : ys ≡ g.front ++ x ∷ g.back = g.is ∙ ap (λ z. g.front ++ z ∷ g.back) (sym it) in
      let rest : (z : A) → count_by (same z) xs ≡ count_by (same z) (g.front ++ g.back) = λ z.
      let p = many_cons (same z) x xs in let q = many_more (same z) g.front (x ∷ g.back) in let r = many_cons (same z) x g.back in
      let s = many_more (same z) g.front g.back in let t = h z in let u : count_by (same z) ys ≡ count_by (same z) (g.front ++ x ∷ g.back) = ap (count_by (same z)) is in omega arith in
      let ih = same_gives same reports itself xs (g.front ++ g.back) rest in
      subst (λ z. IsPermutation (flat_map f z) (f x ++ flat_map f xs)) (sym is)
      (IsPermutation-trans (flat_map f (g.front ++ x ∷ g.back)) (f x ++ flat_map f (g.front ++ g.back)) (f x ++ flat_map f xs)
      (to_front g.front x g.back) (IsPermutation-append_right (f x) (flat_map f (g.front ++ g.back)) (flat_map f xs) ih))

key_reports : (k p : Key) → same_key k p ≡ true → k ≡ p
key_reports k p e = let t = both (k.0 == p.0) (k.1 == p.1) e in λ i. (eqb_is k.0 p.0 t.0 i, eqb_is k.1 p.1 t.1 i)

-- THE STEPS OF A PLAN

-- the steps of the programs, the first of which is that of the thread a
abbrev keys_from : ℕ → List PlannedThread → List Key
keys_from a [] = []
keys_from a (t ∷ threads) = map (λ n. (a, n)) (range_with_len 0 (length t.steps)) ++ keys_from (a + 1) threads

keys_of_one : (a : ℕ) (ns : List ℕ) (x n : ℕ) → x ≡ a → count_by (same_key (x, n)) (map (λ m. (a, m)) ns) ≡ count_by (eqb n) ns
keys_of_one a [] x n e = refl
keys_of_one a (m ∷ ns) x n e =
    let ih = keys_of_one a ns x n e in let c = many_cons (same_key (x, n)) (a, m) (map (λ m. (a, m)) ns) in let d = many_cons (eqb n) m ns in
    let s : plus ((x == a) && (n == m)) ≡ plus (eqb n m) = ap (λ b. plus (b && (n == m))) (eq-eqb x a e) in omega arith

keys_of_other : (a : ℕ) (ns : List ℕ) (x n : ℕ) → x ≢ a → count_by (same_key (x, n)) (map (λ m. (a, m)) ns) ≡ 0
keys_of_other a [] x n e = refl
keys_of_other a (m ∷ ns) x n e =
    let ih = keys_of_other a ns x n e in let c = many_cons (same_key (x, n)) (a, m) (map (λ m. (a, m)) ns) in
    let s : plus ((x == a) && (n == m)) ≡ 0 = ap (λ b. plus (b && (n == m))) (ne_eqb x a e) in omega arith

keys_below : (a : ℕ) (threads : List PlannedThread) (x n : ℕ) → x < a → count_by (same_key (x, n)) (keys_from a threads) ≡ 0
keys_below a [] x n low = refl
keys_below a (t ∷ threads) x n low =
    let m = many_more (same_key (x, n)) (map (λ n. (a, n)) (range_with_len 0 (length t.steps))) (keys_from (a + 1) threads) in
    let h = keys_of_other a (range_with_len 0 (length t.steps)) x n (λ e. omega arith) in let ih = keys_below (a + 1) threads x n (omega arith) in omega arith

in_range : (n d : ℕ) → count_by (eqb n) (range_with_len 0 d) ≡ (if nat_lt n d then 1 else 0)
in_range n d = ⊎_elim
    (λ t. range_in 0 d n (omega arith) (let h = t.1 in omega arith) ∙ ap (λ (b : Bool). if b then 1 else 0) (sym t.0))
    (λ f. range_far 0 d n (let h = f.1 in omega arith) ∙ ap (λ (b : Bool). if b then 1 else 0) (sym f.0))
    (leb_tells (suc n) d)

none_below : (n : ℕ) → ◌≡◌ {A = ℕ} 0 (if nat_lt n 0 then 1 else 0)
none_below n = ⊎_elim (λ t. absurd (let h = t.1 in omega arith)) (λ f. ap (λ (b : Bool). if b then 1 else 0) (sym f.0)) (leb_tells (suc n) 0)

-- each step of each program is there once
keys_are : (a : ℕ) (threads : List PlannedThread) (i n : ℕ) → count_by (same_key (a + i, n)) (keys_from a threads) ≡ (if nat_lt n (length (steps_in (slice_get threads i))) then 1 else 0)
keys_are a [] i n = none_below n
keys_are a (t ∷ threads) zero n =
    let m = many_more (same_key (a + 0, n)) (map (λ n. (a, n)) (range_with_len 0 (length t.steps))) (keys_from (a + 1) threads) in
    let h = keys_of_one a (range_with_len 0 (length t.steps)) (a + 0) n (omega arith) in let r = in_range n (length t.steps) in
    let z = keys_below (a + 1) threads (a + 0) n (omega arith) in omega arith
keys_are a (t ∷ threads) (suc i) n =
    let m = many_more (same_key (a + suc i, n)) (map (λ n. (a, n)) (range_with_len 0 (length t.steps))) (keys_from (a + 1) threads) in
    let h = keys_of_other a (range_with_len 0 (length t.steps)) (a + suc i) n (λ e. omega arith) in
    let e : a + 1 + i ≡ a + suc i = omega arith in
    let ih = subst (λ z. count_by (same_key (z, n)) (keys_from (a + 1) threads) ≡ (if nat_lt n (length (steps_in (slice_get threads i))) then 1 else 0)) e (keys_are (a + 1) threads i n) in
    m ∙ (ap (λ z. z + count_by (same_key (a + suc i, n)) (keys_from (a + 1) threads)) h ∙ (let k : (q : ℕ) → 0 + q ≡ q = λ q. omega arith in k (count_by (same_key (a + suc i, n)) (keys_from (a + 1) threads)) ∙ ih))

module _ (says : Step → List (List ℕ)) (plan : BootPlan) where
  abbrev pub lines_at : Option Step → List (List ℕ)
  lines_at None = []
  lines_at (Some step) = says step

  -- what a step of the plan says
  abbrev pub line_at : Key → List (List ℕ)
  line_at k = lines_at (step_of plan k.0 k.1)

  lines_of_program : (a b : ℕ) (l : List Step) → ((i : ℕ) → slice_get l i ≡ slice_get (program plan a) (b + i))
      → flat_map line_at (map (λ n. (a, n)) (range_with_len b (length l))) ≡ flat_map says l
  lines_of_program a b [] h = refl
  lines_of_program a b (x ∷ l) h =
      let e : b + 0 ≡ b = omega arith in
      let here : line_at (a, b) ≡ says x = ap (λ z. lines_at (slice_get (program plan a) z)) (sym e) ∙ ap lines_at (sym (h 0)) in
      let ih = lines_of_program a (b + 1) l (λ i. let f : b + suc i ≡ b + 1 + i = omega arith in h (suc i) ∙ ap (slice_get (program plan a)) f) in
      λ k. here k ++ ih k

  lines_of_keys : (a : ℕ) (threads : List PlannedThread) → ((i : ℕ) → steps_in (slice_get threads i) ≡ program plan (a + i))
      → flat_map line_at (keys_from a threads) ≡ flat_map (λ (t : PlannedThread). flat_map says t.steps) threads
  lines_of_keys a [] h = refl
  lines_of_keys a (t ∷ threads) h =
      let e : a + 0 ≡ a = omega arith in
      let own : t.steps ≡ program plan a = h 0 ∙ ap (program plan) e in
      let first = lines_of_program a 0 t.steps (λ i. let f : i ≡ 0 + i = omega arith in ap (λ z. slice_get z i) own ∙ ap (slice_get (program plan a)) f) in
      let ih = lines_of_keys (a + 1) threads (λ i. let f : a + suc i ≡ a + 1 + i = omega arith in h (suc i) ∙ ap (program plan) f) in
      flat_map-append line_at (map (λ n. (a, n)) (range_with_len 0 (length t.steps))) (keys_from (a + 1) threads) ∙ (λ k. first k ++ ih k)

  -- if each step was done once, the done steps say what the plan says
  pub all_done : (done : List Key) → ((x n : ℕ) → count_by (same_key (x, n)) done ≡ (if nat_lt n (length (program plan x)) then 1 else 0))
      → IsPermutation (flat_map line_at done) (flat_map (λ (t : PlannedThread). flat_map says t.steps) plan.threads)
  all_done done once = subst (IsPermutation (flat_map line_at done)) (lines_of_keys 0 plan.threads (λ i. let e : i ≡ 0 + i = omega arith in ap (program plan) e))
      (same_gives line_at same_key key_reports key_itself (keys_from 0 plan.threads) done
      (λ k. let e : 0 + k.0 ≡ k.0 = omega arith in
      subst (λ z. count_by (same_key (z, k.1)) (keys_from 0 plan.threads) ≡ (if nat_lt k.1 (length (program plan k.0)) then 1 else 0)) e (keys_are 0 plan.threads k.0 k.1) ∙ sym (once k.0 k.1)))

-- WHAT A DONE STEP SAYS

abbrev is_say : StepOutcome → Bool
is_say (step_outcomes.Say queue answer) = true
is_say step_outcome = false

nothing_if : (b : Bool) → ◌≡◌ {A = List (List ℕ)} [] (if b then [] else [])
nothing_if true = refl
nothing_if false = refl

module _ (plan : BootPlan) (index : QueueIndex) where
  abbrev PutsNone : AtQueue → Type 0
  PutsNone a = a.put ≡ []

  says_none : (step : Step) (step_outcome : StepOutcome) (line : List ℕ) → IsOutcomeOf step step_outcome line → is_say step_outcome ≡ false → says_to index step ≡ []
  says_none (steps.Say queue text) (step_outcomes.Say at answer) line d e = absurd (cc)
  says_none (steps.Say queue text) step_outcome line d e = absurd d
  says_none step step_outcome line d e = refl

  none_said : (step : Step) (step_outcome : StepOutcome) (line : List ℕ) → IsOutcomeOf step step_outcome line → is_say step_outcome ≡ false → [] ≡ (if is_done step_outcome then says_to index step else [])
  none_said step step_outcome line d e = nothing_if (is_done step_outcome) ∙ ap (λ z. if is_done step_outcome then z else []) (sym (says_none step step_outcome line d e))

  by_answer : (queue : QueueIndex) (answer : SayAnswer) (text line : List ℕ) → line ≡ said_line text → saw_shut (step_outcomes.Say queue answer) index ≡ false
      → (queues_by (step_outcomes.Say queue answer) line index).put ≡ (if is_done (step_outcomes.Say queue answer) then says_to index (steps.Say queue text) else [])
  by_answer queue (says.Put woken) text line l t = only_map (λ (a : AtQueue). a.put) idle_queue (put_if (said (says.Put woken)) line) queue index ∙ ap (λ z. only [] queue (z ∷ []) index) l
  by_answer queue says.Over text line l t = only_all PutsNone idle_queue (put_if (said says.Over) line) refl refl queue index ∙ sym (only_off [] (said_line text ∷ []) queue index t)
  by_answer queue (says.Refused unsaid) text line l t = only_all PutsNone idle_queue (put_if (said (says.Refused unsaid)) line) refl refl queue index

  by_step : (step : Step) (step_outcome : StepOutcome) (line : List ℕ) → IsOutcomeOf step step_outcome line → saw_shut step_outcome index ≡ false → (queues_by step_outcome line index).put ≡ (if is_done step_outcome then says_to index step else [])
  by_step step (step_outcomes.Say queue answer) line d t = let s = say_is step queue answer line d in
      by_answer queue answer s.0 line s.2 t ∙ ap (λ z. if is_done (step_outcomes.Say queue answer) then says_to index z else []) (sym s.1)
  by_step step (step_outcomes.Hear queue answer) line d t = only_all PutsNone idle_queue (taken_if (heard answer) line) refl refl queue index ∙ none_said step (step_outcomes.Hear queue answer) line d refl
  by_step step (step_outcomes.Close queue was_open readers writers) line d t = only_all PutsNone idle_queue (shut_if was_open) refl refl (Small queue) index ∙ none_said step (step_outcomes.Close queue was_open readers writers) line d refl
  by_step step step_outcome line d t = none_said step step_outcome line d refl

  abbrev its_line : Key → List (List ℕ)
  its_line = line_at (says_to index) plan

  by_key : (b : Bool) (element number : ℕ) (step : Step) → step_of plan element number ≡ Some step → (if b then says_to index step else []) ≡ flat_map its_line (if b then (element, number) ∷ [] else [])
  by_key true element number step is = sym (append-nil (says_to index step)) ∙ ap (λ z. lines_at (says_to index) plan z ++ []) (sym is)
  by_key false element number step is = refl

  by_entry : (entry : LogEntry) → FollowsPlan plan entry → turn_saw_shut index entry ≡ false → ((entry_account entry).queues index).put ≡ flat_map its_line (entry_account entry).hand.done
  by_entry entry p t = ⊎_elim (λ r. ap (λ (f : QueueIndex → AtQueue). (f index).put) r.queues ∙ ap (flat_map its_line) (sym r.done))
      (λ s. ap (λ (f : QueueIndex → AtQueue). (f index).put) s.queues ∙ (by_step s.step s.step_outcome s.line s.outcome_is (ap (λ (f : QueueIndex → Bool). f index) (sym s.told_is) ∙ t)
      ∙ (by_key (is_done s.step_outcome) s.element s.number s.step s.is ∙ ap (flat_map its_line) (sym s.done)))) (turn_is plan entry p)

  by_log : (log : List LogEntry) → AllByRecursion (FollowsPlan plan) log → was_shut log index ≡ false → ((sum_of log).queues index).put ≡ flat_map its_line (sum_of log).hand.done
  by_log [] p t = refl
  by_log (entry ∷ log) p t = let s = or_false (turn_saw_shut index entry) (was_shut log index) t in
      (λ k. by_entry entry p.0 s.0 k ++ by_log log p.1 s.1 k) ∙ sym (flat_map-append its_line (entry_account entry).hand.done (sum_of log).hand.done)

  none_told : (logs : List (List LogEntry)) → IsNeverShut index logs → was_shut (all_of logs) index ≡ false
  none_told [] t = refl
  none_told (log ∷ logs) t = list_any-append (turn_saw_shut index) log (all_of logs) ∙ (λ k. t.0 k || none_told logs t.1 k)

-- ALL ENDED

free_one : (place : Place) (steps all : ℕ) (retired : Bool) → state_for place ≡ states.Ended → PlaceAgrees place steps all retired → steps ≡ all
free_one places.Free steps all retired e h = h.0
free_one place steps all retired e h = absurd (cc)

is_end : (state : ThreadState) → is_ended state ≡ true → state ≡ states.Ended
is_end states.Ended e = refl
is_end state e = absurd (cc)

none_live : (lines : List ThreadLine) → count_by is_live lines ≡ 0 → (k : ℕ) (line : ThreadLine) → slice_get lines k ≡ Some line → line.state ≡ states.Ended
none_live [] h k line at = absurd (cc)
none_live (l ∷ ls) h zero line at = let e : l ≡ line = cc in by_bool (is_ended l.state)
    (λ is. ap (λ (z : ThreadLine). z.state) (sym e) ∙ is_end l.state is)
    (λ isnt. let c = many_cons is_live l ls in let z : plus (is_live l) ≡ 1 = ap (λ b. plus (not b)) isnt in absurd (omega arith))
none_live (l ∷ ls) h (suc k) line at = let c = many_cons is_live l ls in none_live ls (omega arith) k line at

module _ (plan : BootPlan) (c : ClosedTables) (logs : List (List LogEntry)) (heard : List Line) (r : Report) (report : IsReport plan c logs heard r) (ended : AllEnded r) where
  all_once : (x n : ℕ) → count_by (same_key (x, n)) (total_of logs).hand.done ≡ (if nat_lt n (length (program plan x)) then 1 else 0)
  all_once x n = dite (dec_lt x (length plan.threads))
      (λ low.
      let w = report.says.whole in
      let p = there_is plan.threads x low in
      let t = there_is c.threads x (let e = w.all_threads in omega arith) in
      let l = there_is r.threads x (let e = w.threads in omega arith) in
      let a = report.tables.threads x t.0 t.1 in
      let said = report.says.threads x p.0 t.0 l.0 p.1 t.1 l.1 in
      let full = free_one t.0.place t.0.steps (length (program plan x)) _ (sym said.state ∙ none_live r.threads ended x l.0 l.1) a.place in
      a.ran.once n ∙ ap (λ z. if nat_lt n z then 1 else 0) full)
      (λ high. let e : program plan x ≡ [] = no_program plan.threads x (omega (arith, high)) in
      none_in plan x n (ap (λ (z : List Step). slice_get z n) e) (all_of logs) (all_planned plan logs report.tables.planned)
      ∙ (none_below n ∙ ap (λ (z : List Step). if nat_lt n (length z) then 1 else 0) (sym e)))

  pub all_said_to : (index : QueueIndex) → IsNeverShut index logs → IsSaid plan index logs
  all_said_to index never = subst (λ z. IsPermutation z (all_said plan index))
      (sym (by_log plan index (all_of logs) (all_planned plan logs report.tables.planned) (none_told plan index logs never)))
      (all_done (says_to index) plan (total_of logs).hand.done all_once)
