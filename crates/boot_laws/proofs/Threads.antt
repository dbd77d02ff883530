-- The closed threads by the logs.
use Rattle.boot_laws.proofs.Common.{Done, ◌≡◌, ◌≢◌, ⊎_elim, ℕ, suc, ◌+◌, ◌<◌, ◌≤◌, Bool, true, false, List, [], ◌∷◌, ◌++◌, map, length, refl, sym, ap, ◌∙◌, subst, arith, Some, None, count_by, eqb, eq-eqb, append-nil, if◌then◌else◌, ◌||◌, ◌==◌, ◌&&◌, nat_lt, slice_index_or, AllByRecursion, leb_tells, dite, dec_lt, BootPlan, Step, Tally, Place, Account, LogEntry, sum_of, HasDoneAll, preparing, Key, program, same_key, plus, many_cons, many_more, by_bool, is_less, PlaceAgrees, ClosedTables, WorkedTogether, ThreadsEnded, thread_of, total_of, slice_get, cond, Settles, is_free, followed_by, numbers_done, Climbs, ThreadAgrees, StepsAgree, was_retired, FreedSpare, sum_on}
use Rattle.std.specs.List.{list_any, filter}
use Rattle.std.proofs.lemmas.Bool.{and_parts as both, eqb-true as eqb_is}
use Rattle.std.proofs.lemmas.Option.{slice_get_within as within}
use Rattle.boot_laws.proofs.Settling.Reading.{is_of, steps_of_rest, signals_of_rest, retired_where_free, retired_last}
use Rattle.thread_table.specs.declared.places.Place.TheVariants as places
use Rattle.thread_table.specs.Answers.{is_in}
use Rattle.boot_laws.specs.ClosedTables as closed
use Rattle.boot_laws.proofs.Totals.{all_of, all_did, all_planned}
use Rattle.boot_laws.proofs.Turns.{all_work, all_over}
use Rattle.boot_laws.proofs.Undone.{none_in}

past_end : (l : List Step) → slice_get l (length l) ≡ None
past_end [] = refl
past_end (x ∷ l) = past_end l

-- ORDER

-- a step is among those done as often as its number is among the numbers of its thread's
module _ (x n : ℕ) where
  numbered : (keys : List Key) → count_by (eqb n) (map (λ (key : Key). key.1) (filter (λ (key : Key). x == key.0) keys)) ≡ count_by (same_key (x, n)) keys
  numbered [] = refl
  numbered (key ∷ keys) =
      let f : List Key → List ℕ = map (λ key. key.1) in
      let rest : List Key = filter (λ key. x == key.0) keys in
      let c = many_cons (same_key (x, n)) key keys in let h = numbered keys in by_bool (x == key.0)
      (λ is. let same : plus (same_key (x, n) key) ≡ plus (eqb n key.1) = ap (λ b. plus (b && (n == key.1))) is in
      let d = many_cons (eqb n) key.1 (f rest) in
      let e : count_by (eqb n) (f (filter (λ key. x == key.0) (key ∷ keys))) ≡ count_by (eqb n) (key.1 ∷ f rest) = ap (λ b. count_by (eqb n) (f (cond b (key ∷ rest) rest))) is in omega arith)
      (λ isnt. let none : plus (same_key (x, n) key) ≡ 0 = ap (λ b. plus (b && (n == key.1))) isnt in
      let e : count_by (eqb n) (f (filter (λ key. x == key.0) (key ∷ keys))) ≡ count_by (eqb n) (f rest) = ap (λ b. count_by (eqb n) (f (cond b (key ∷ rest) rest))) isnt in omega arith)

-- numbers that climb, all of them below a top, climb up to it
climbs_below : (numbers : List ℕ) (low high top : ℕ) → low ≤ top → ((n : ℕ) → 1 ≤ count_by (eqb n) numbers → n < top) → Climbs numbers low high → Climbs numbers low top
climbs_below [] low high top up below h = up
climbs_below (y ∷ ys) low high top up below h =
    let c = many_cons (eqb y) y ys in let one : plus (eqb y y) ≡ 1 = ap plus (eq-eqb y y refl) in
    (h.0, climbs_below ys (y + 1) high top (let k = below y (omega arith) in omega arith) (λ n some. below n (let d = many_cons (eqb n) y ys in omega arith)) h.1)

all_climb : (x top : ℕ) (logs : List (List LogEntry)) → AllByRecursion (λ log. (high : ℕ) × Climbs (numbers_done log x) 0 high) logs
    → ((n : ℕ) → 1 ≤ count_by (same_key (x, n)) (total_of logs).hand.done → n < top) → AllByRecursion (λ log. Climbs (numbers_done log x) 0 top) logs
all_climb x top [] z below = tt
all_climb x top (l ∷ ls) z below =
    let parts : (n : ℕ) → count_by (same_key (x, n)) (total_of (l ∷ ls)).hand.done ≡ count_by (same_key (x, n)) (sum_of l).hand.done + count_by (same_key (x, n)) (total_of ls).hand.done =
    λ n. ap (λ (a : Account). count_by (same_key (x, n)) a.hand.done) (sum_on l (all_of ls)) ∙ many_more (same_key (x, n)) (sum_of l).hand.done (total_of ls).hand.done in (
      climbs_below (numbers_done l x) 0 z.0.0 top (omega arith)
          (λ n some. below n (let e = numbered x n (sum_of l).hand.done in let p = parts n in omega arith)) z.0.1,
      all_climb x top ls z.1 (λ n some. below n (let p = parts n in omega arith)),
    )

-- FREE ELEMENTS

-- a thread's element is none of the spare ones
none_spare : (n x : ℕ) → x < n → (l : List Key) → AllByRecursion (λ (freed : Key). n ≤ freed.0) l → list_any (is_of x) l ≡ false
none_spare n x low [] a = refl
none_spare n x low (r ∷ l) a = by_bool (is_of x r) (λ is. absurd (let s = eqb_is r.0 x is in let b = a.0 in omega arith)) (λ isnt. λ i. isnt i || none_spare n x low l a.1 i)

-- what is listed as retired after so many steps had done all
has_done_all : (plan : BootPlan) (x n : ℕ) (l : List Key) → AllByRecursion (HasDoneAll plan) l → list_any (same_key (x, n)) l ≡ true → length (program plan x) ≤ n
has_done_all plan x n [] a h = absurd (cc)
has_done_all plan x n (r ∷ l) a h = by_bool (same_key (x, n) r)
    (λ is. let t = both (x == r.0) (n == r.1) is in let e : length (program plan r.0) ≡ length (program plan x) = ap (λ z. length (program plan z)) (sym (eqb_is x r.0 t.0)) in let f = eqb_is n r.1 t.1 in let g = a.0 in omega arith)
    (λ isnt. has_done_all plan x n l a.1 (sym (ap (λ z. z || list_any (same_key (x, n)) l) isnt) ∙ h))

by_place : (place : Place) (steps all : ℕ) (retired : Bool) → retired ≡ is_free place → (is_free place ≡ true → steps ≡ all) → ((p : ℕ) → place ≢ places.Processor p) → PlaceAgrees place steps all retired
by_place places.Free steps all retired is done none = (done refl, is)
by_place (places.Processor p) steps all retired is done none = none p refl
by_place places.Ready steps all retired is done none = is
by_place (places.Wait wait) steps all retired is done none = is
by_place places.Stopped steps all retired is done none = is
by_place places.Held steps all retired is done none = is

-- ALL

module _ (plan : BootPlan) (logs : List (List LogEntry)) (done : Done) (w : WorkedTogether plan logs done) (c : ClosedTables) (e : ThreadsEnded done.in_all c) where
  -- what the first hand did, and what the logs say, settle the table
  abbrev begun : Tally
  begun = (preparing plan done.before).hand

  settled : Settles (followed_by begun (total_of logs).hand) e.reported.places e.reported.pcs e.reported.pending
  settled = subst (λ (t : Tally). Settles t e.reported.places e.reported.pcs e.reported.pending) (ap (λ (a : Account). a.hand) (all_did plan logs done w)) e.settles

  -- each step of an element was done once, up to the number of steps in the table
  pub once : (x n : ℕ) → x < 64 → count_by (same_key (x, n)) (total_of logs).hand.done ≡ (if nat_lt n (slice_index_or e.reported.pcs x 0) then 1 else 0)
  once x n low = steps_of_rest begun (total_of logs).hand e.reported.places e.reported.pcs e.reported.pending settled x low refl n

  -- no thread has done more steps than its program has
  pub prefix : (x : ℕ) → x < 64 → slice_index_or e.reported.pcs x 0 ≤ length (program plan x)
  prefix x low = dite (dec_lt (length (program plan x)) (slice_index_or e.reported.pcs x 0))
      (λ over. let none = none_in plan x (length (program plan x)) (past_end (program plan x)) (all_of logs) (all_planned plan logs w.planned) in
      let one : ◌≡◌ {A = ℕ} (if nat_lt (length (program plan x)) (slice_index_or e.reported.pcs x 0) then 1 else 0) 1 = ap (λ b. if b then 1 else 0) (is_less (length (program plan x)) (slice_index_or e.reported.pcs x 0) over) in
      let h = once x (length (program plan x)) low in absurd (omega arith))
      (λ high. omega (arith, high))

  module _ (spare : FreedSpare plan done.before) (x : ℕ) (low : x < 64) (its : x < length plan.threads) where
    abbrev t : closed.Thread
    t = thread_of e.reported e.signals x

    steps_agree : StepsAgree plan x t.steps logs
    steps_agree = record {
      prefix = prefix x low;
      once = λ n. once x n low;
      order = all_climb x t.steps logs (w.climb x) (λ n some. ⊎_elim (λ less. less.1)
          (λ not_less. let h = once x n low ∙ ap (λ b. if b then 1 else 0) not_less.0 in absurd (omega arith)) (leb_tells (suc n) t.steps));
    }

    took : length (begun.taken ++ (total_of logs).hand.taken) ≡ 64
    took = ap (λ l. length (begun.taken ++ l)) (all_work (all_of logs)).taken ∙ (ap length (append-nil begun.taken) ∙ w.took)

    none : list_any (is_of x) begun.retired ≡ false
    none = none_spare (length plan.threads) x its begun.retired spare

    place_agrees : PlaceAgrees t.place t.steps (length (program plan x)) (was_retired x logs)
    place_agrees = by_place t.place t.steps (length (program plan x)) (was_retired x logs)
        (retired_where_free begun (total_of logs).hand e.reported.places e.reported.pcs e.reported.pending settled x low took none)
        (λ free. let all = has_done_all plan x t.steps (total_of logs).hand.retired (all_over plan (all_of logs) (all_planned plan logs w.planned))
        (retired_last begun (total_of logs).hand e.reported.places e.reported.pcs e.reported.pending settled x low took none free) in let prefix = steps_agree.prefix in omega arith)
        (λ p. e.none_on x p low)

    shown_agrees : (n : ℕ) → n < 16 → is_in t.shown n ≡ (total_of logs).shown x n
    shown_agrees n few = sym (within_both (nat_lt x 64) (nat_lt n 16) (is_in t.shown n) (is_less x 64 low) (is_less n 16 few)) ∙ ap (λ (f : ℕ → ℕ → Bool). f x n) (sym e.shown) ∙ ap (λ (a : Account). a.shown x n) (all_did plan logs done w)
      where
        within_both : (a b z : Bool) → a ≡ true → b ≡ true → (a && (b && z)) ≡ z
        within_both true true z h g = refl
        within_both true false z h g = absurd (cc)
        within_both false b z h g = absurd (cc)

    signals_agree : (n : ℕ) → n < 16 → (is_in t.shown n || is_in t.pending n) ≡ list_any (same_key (x, n)) (total_of logs).hand.signalled
    signals_agree n few = ap (λ z. z || is_in t.pending n) (shown_agrees n few ∙ (all_work (all_of logs)).shown x n (is_less x 64 low) (is_less n 16 few))
        ∙ sym (signals_of_rest begun (total_of logs).hand e.reported.places e.reported.pcs e.reported.pending settled x low refl refl n few)

    agrees : ThreadAgrees plan x t logs
    agrees = record { ran = steps_agree; place = place_agrees; shown = shown_agrees; signals = signals_agree }

  pub thread_agrees : FreedSpare plan done.before → (x : ℕ) → x < length plan.threads → (t : closed.Thread) → slice_get c.threads x ≡ Some t → ThreadAgrees plan x t logs
  thread_agrees spare x its t at = subst (λ (z : closed.Thread). ThreadAgrees plan x z logs) (sym (e.each x t at)) (agrees spare x (let a = within c.threads x t at in let b = e.few in omega arith) its)
