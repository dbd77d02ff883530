-- Each step that an element has done is counted once.
use Rattle.turn_dispatch.proofs.Common.{◌==◌, ◌&&◌, is_done, made_in, View, done_at, thread_at, elements_of, tally}
use Rattle.boot_laws.proofs.Common.{same_pair, IsOnceWhere, has_done, if◌then◌else◌, nat_lt, done_of, done_numbers, state_after, range_far, done_by}
use Rattle.boot_laws.proofs.Settling.Common.{cases_lt, eq-eqb, map, Thread, new_thread, get_or-eq_default, le-ltb, moves, Place, ClosedNow, elements_after, plus, many_cons, by_bool, is_less, range_in}
use Rattle.thread_table.proofs.Common.{◌≡◌, get_or, ⊎_elim, ℕ, ◌+◌, Bool, false, eqb, ne_eqb, eqb_tells, List, [], ◌∷◌, ◌∙◌, refl, sym, ap, arith, count_by, State, Event, range_with_len}
use Rattle.event_theory.specs.declared.event.Event.TheVariants as events
use Rattle.thread_table.proofs.Schedule.Once.{thread_done, drop_it, keep_it}
use Rattle.boot_laws.proofs.Settling.Moves.{Move, of_schedule, each_one}
use Rattle.boot_laws.proofs.Settling.Named.{sizes_are}

pub turned : (m n : ℕ) → (m == n) ≡ (n == m)
turned m n = ⊎_elim (λ t. t.0 ∙ sym (eq-eqb n m (sym t.1))) (λ f. f.0 ∙ sym (ne_eqb n m (λ e. f.1 (sym e)))) (eqb_tells m n)

-- how many steps were done, in two readings
done_is : (past : List Event) (x : ℕ) → done_at past x ≡ done_of x (state_after past)
done_is past x = ap (λ z. (thread_at z x).done) (elements_of past) ∙ thread_done (state_after past).elements.threads x

up_one : (n a : ℕ) → (n == a) ≡ eqb (n + 1) (a + 1)
up_one n a = ⊎_elim (λ t. t.0 ∙ sym (eq-eqb (n + 1) (a + 1) (let e = t.1 in omega arith)))
    (λ f. f.0 ∙ sym (ne_eqb (n + 1) (a + 1) (λ e. f.1 (omega arith)))) (eqb_tells n a)

module _ (x n : ℕ) where
  -- it counted the step with this number
  abbrev counts_it : Move → Bool
  counts_it m = is_done x m.0 && eqb (n + 1) (done_of x m.1 + 1)

  one : (event : Event) (s : State) → count_by (same_pair (x, n)) (done_by (made_in event s)) ≡ plus (counts_it (event, s))
  one (events.Done call e) s = let number : ℕ = (thread_at s.elements e).done in
      let a = many_cons (same_pair (x, n)) (e, number) [] in
      ⊎_elim
      (λ t. let same : number ≡ done_of x s = ap (λ k. (thread_at s.elements k).done) t.1 ∙ thread_done s.elements.threads x in
      let b : plus ((x == e) && (n == number)) ≡ plus ((e == x) && eqb (n + 1) (done_of x s + 1)) = (λ k. plus (turned x e k && (n == same k))) ∙ ap (λ b. plus ((e == x) && b)) (up_one n (done_of x s)) in omega arith)
      (λ f. let b : plus ((x == e) && (n == number)) ≡ 0 = ap (λ b. plus (b && (n == number))) (turned x e ∙ f.0) in
      let c : plus ((e == x) && eqb (n + 1) (done_of x s + 1)) ≡ 0 = ap (λ b. plus (b && eqb (n + 1) (done_of x s + 1))) f.0 in omega arith)
      (eqb_tells e x)
  one event s = refl

  by_numbers : (ms : List Move) → count_by counts_it ms ≡ count_by (eqb (n + 1)) (done_numbers x ms)
  by_numbers [] = refl
  by_numbers (m ∷ ms) = let ih = by_numbers ms in let c = many_cons counts_it m ms in
      let p : Move → Bool = λ m. is_done x m.0 in let f : Move → ℕ = λ m. done_of x m.1 + 1 in by_bool (p m)
      (λ is. let e : plus (counts_it m) ≡ plus (eqb (n + 1) (f m)) = ap (λ b. plus (b && eqb (n + 1) (f m))) is in
      let d = many_cons (eqb (n + 1)) (f m) (done_numbers x ms) in
      let g : count_by (eqb (n + 1)) (done_numbers x (m ∷ ms)) ≡ count_by (eqb (n + 1)) (f m ∷ done_numbers x ms) = ap (λ z. count_by (eqb (n + 1)) (map f z)) (keep_it p m ms is) in
      omega arith)
      (λ isnt. let e : plus (counts_it m) ≡ 0 = ap (λ b. plus (b && eqb (n + 1) (f m))) isnt in
      let g : count_by (eqb (n + 1)) (done_numbers x (m ∷ ms)) ≡ count_by (eqb (n + 1)) (done_numbers x ms) = ap (λ z. count_by (eqb (n + 1)) (map f z)) (drop_it p m ms false isnt) in
      omega arith)

  in_range : (d : ℕ) → count_by (eqb (n + 1)) (range_with_len 1 d) ≡ (if nat_lt n d then 1 else 0)
  in_range d = ⊎_elim
      (λ low. range_in 1 d (n + 1) (omega arith) (omega arith) ∙ ap (λ (b : Bool). if b then 1 else 0) (sym (is_less n d low)))
      (λ far. range_far 1 d (n + 1) (omega arith) ∙ ap (λ (b : Bool). if b then 1 else 0) (sym (le-ltb n d far)))
      (cases_lt n d)

  -- an element that there isn't has done none
  reported_done : (call : ℕ) (v : View) (stands : List Place) (pcs pending : List ℕ) (stops : ℕ) → ClosedNow call v stands pcs pending stops
      → nat_lt n (done_of x (state_after v.seen.object)) ≡ has_done pcs x n
  reported_done call v stands pcs pending stops c = let past : List Event = v.seen.object in ⊎_elim
      (λ low. λ i. sym (is_less x 64 low) i && nat_lt n (sym (c.steps x low ∙ done_is past x) i))
      (λ far. let long = ap (λ (z : ℕ × ℕ × ℕ). z.0) (sizes_are past c.allowed) in
      let none : done_of x (state_after past) ≡ 0 = sym (done_is past x) ∙ ap (λ (t : Thread). t.done) (get_or-eq_default (elements_after past).threads new_thread (omega (arith, far, long))) in
      ap (nat_lt n) none ∙ (le-ltb n 0 (omega arith) ∙ ap (λ b. b && nat_lt n (get_or pcs x 0)) (sym (le-ltb x 64 far))))
      (cases_lt x 64)

  pub steps_settle : (call : ℕ) (v : View) (stands : List Place) (pcs pending : List ℕ) (stops : ℕ) → ClosedNow call v stands pcs pending stops
      → IsOnceWhere (has_done pcs x n) (x, n) (tally v.own.made).done
  steps_settle call v stands pcs pending stops c = let past : List Event = v.seen.object in
      of_schedule done_by (λ call other s. refl) (same_pair (x, n)) past v.own.made c.made
      ∙ (each_one done_by (same_pair (x, n)) counts_it one (moves _ past)
      ∙ (by_numbers (moves _ past)
      ∙ (ap (count_by (eqb (n + 1))) (c.accounted.done x)
      ∙ (in_range (done_of x (state_after past))
      ∙ ap (λ (b : Bool). if b then 1 else 0) (reported_done call v stands pcs pending stops c)))))
