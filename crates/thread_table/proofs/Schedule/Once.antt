-- Each step of an element is counted by one event of one hand.
use Rattle.thread_table.proofs.Common.{◌≡◌, ◌⊎◌, inl, inr, ⊎_elim, ℕ, zero, suc, ◌+◌, ◌≤◌, Bool, true, false, cond, eqb, eq-eqb, List, [], ◌∷◌, map, length, get_or, refl, sym, ap, ◌∙◌, arith, slice_get, range_with_len, if◌then◌else◌, count_by, result_unwrap_or, eqb-true, and_parts, eqb_tells, length-map, length-range_with_len, dite, dec_lt, ℕ_discrete, is_done, Elements, Thread, new_thread, State, step, first_state, Event, Begins, entry_of, ELEMENTS, MadeEvent, is_join, made_in, numbered, AreMade, done_at, thread_at}
use Rattle.std.specs.List.{filter}
use Rattle.std.specs.Prelude.{◌&&◌}
use Rattle.std.proofs.lemmas.List.Sums.{length-filter}
use Rattle.event_theory.specs.Accounts.{moves, done_in, done_of, done_numbers}
use Rattle.event_theory.specs.declared.event.Event.TheVariants as events
use Rattle.thread_table.specs.Makers.{number_of, StepsOnce}
use Rattle.thread_table.specs.Schedules.{begun, state_after, elements_after, IsAllowed}
use Rattle.thread_table.proofs.Lists.Counts.{plus, many_cons, many_more, many_shuffled, many_two, found_at, range_in, range_far}
use Rattle.thread_table.proofs.Lists.Shuffles.{filed_shuffle}
use Rattle.thread_table.proofs.Schedule.Schedules.{elements_of, allowed_before, accounted}

module _ {A : Type 0} where
  pub drop_it : (p : A → Bool) (m : A) (ms : List A) (j : Bool) → p m ≡ false → filter p (if j then ms else (m ∷ ms)) ≡ filter p ms
  drop_it p m ms true e = refl
  drop_it p m ms false e = ap (λ (b : Bool). cond b (m ∷ filter p ms) (filter p ms)) e

  pub keep_it : (p : A → Bool) (m : A) (ms : List A) → p m ≡ true → filter p (m ∷ ms) ≡ m ∷ filter p ms
  keep_it p m ms e = ap (λ (b : Bool). cond b (m ∷ filter p ms) (filter p ms)) e

  -- how many of those that pass one test pass another, by what a function makes of them
  count_mapped : {B : Type 0} (p : A → Bool) (q : B → Bool) (f : A → B) (xs : List A) → count_by q (map f (filter p xs)) ≡ count_by (λ x. p x && q (f x)) xs
  count_mapped p q f [] = refl
  count_mapped p q f (x ∷ xs) = by (p x) (count_mapped p q f xs) ∙ sym (many_cons (λ y. p y && q (f y)) x xs)
    where
      by : (b : Bool) → count_by q (map f (filter p xs)) ≡ count_by (λ y. p y && q (f y)) xs
          → count_by q (map f (cond b (x ∷ filter p xs) (filter p xs))) ≡ plus (b && q (f x)) + count_by (λ y. p y && q (f y)) xs
      by true ih = omega (arith, many_cons q (f x) (map f (filter p xs)), ih)
      by false ih = omega (arith, ih)

-- how many steps a thread has done, by its number, in two readings
pub thread_done : (ts : List Thread) (x : ℕ) → (get_or ts x new_thread).done ≡ done_in (slice_get ts x)
thread_done [] x = refl
thread_done (t ∷ ts) zero = refl
thread_done (t ∷ ts) (suc x) = thread_done ts x

done_is : (past : List Event) (x : ℕ) → done_at past x ≡ done_of x (state_after past)
done_is past x = ap (λ (z : Elements). (thread_at z x).done) (elements_of past) ∙ thread_done (state_after past).elements.threads x

-- an event counts no step of the element, or it is no join and has the number that it found
abbrev DoneKind : ℕ → Event → Type 0
DoneKind x event = (is_done x event ≡ false) ⊎ ((is_done x event ≡ true) × (is_join event ≡ false) × ((s : State) → number_of event s ≡ done_of x s))

done_kind : (x : ℕ) (event : Event) → DoneKind x event
done_kind x (events.Done call e) = ⊎_elim
    (λ same. inr (same.0, refl, λ s. ap (λ (k : ℕ). (thread_at s.elements k).done) same.1 ∙ thread_done s.elements.threads x))
    (λ differ. inl differ.0)
    (eqb_tells e x)
done_kind x event = inl refl

-- an event of a list counts a step of the element
abbrev pub counts_step : ℕ → MadeEvent → Bool
counts_step x m = is_done x m.event

-- the numbers of an element's steps, as its events gave them
numbers_counted : (x : ℕ) (s : State) (es : List Event) → map (λ (m : MadeEvent). m.number + 1) (filter (counts_step x) (numbered s es)) ≡ done_numbers x (moves s es)
numbers_counted x s [] = refl
numbers_counted x s (event ∷ es) =
    let t : State = result_unwrap_or (step event s) s in
    let m : MadeEvent = made_in event s in
    let n : List MadeEvent = numbered t es in
    let ih = numbers_counted x t es in
    ⊎_elim
    (λ isnt. ap (map (λ (m : MadeEvent). m.number + 1)) (drop_it (counts_step x) m n (is_join event) isnt) ∙ (ih
    ∙ sym (ap (map _) (drop_it (λ move. is_done x move.0) (event, s) (moves t es) false isnt))))
    (λ is. ap (λ (b : Bool). map (λ (m : MadeEvent). m.number + 1) (filter (counts_step x) (if b then n else (m ∷ n)))) is.1
    ∙ (ap (map (λ (m : MadeEvent). m.number + 1)) (keep_it (counts_step x) m n is.0)
    ∙ ((λ k. (is.2 s k + 1) ∷ ih k) ∙ sym (ap (map _) (keep_it (λ move. is_done x move.0) (event, s) (moves t es) is.0)))))
    (done_kind x event)

-- the numbers of an element's steps are 1, 2, and so on up to its steps done
pub numbers_are : (past : List Event) → IsAllowed past → (x : ℕ) → map (λ (m : MadeEvent). m.number + 1) (filter (counts_step x) (numbered begun past)) ≡ range_with_len 1 (done_of x (state_after past))
unfolding begun
numbers_are past allowed x = numbers_counted x (first_state ELEMENTS) past ∙ (accounted past allowed).done x

count_moves : (x : ℕ) (s : State) (es : List Event) → count_by (λ (move : Event × State). is_done x move.0) (moves s es) ≡ count_by (is_done x) es
count_moves x s [] = refl
count_moves x s (e ∷ es) = let t : State = result_unwrap_or (step e s) s in
    omega (arith, many_cons (λ (move : Event × State). is_done x move.0) (e, s) (moves t es), many_cons (is_done x) e es, count_moves x t es)

-- an element has done as many steps as the events counted
pub counted_done : (past : List Event) → IsAllowed past → (x : ℕ) → done_at past x ≡ count_by (is_done x) past
counted_done past allowed x =
    let taken : List (Event × State) = filter (λ (move : Event × State). is_done x move.0) (moves (first_state ELEMENTS) past) in
    done_is past x ∙ (sym (length-range_with_len 1 (done_of x (state_after past))) ∙ (sym (ap length ((accounted past allowed).done x))
    ∙ (length-map taken _ ∙ (length-filter _ (moves (first_state ELEMENTS) past) ∙ count_moves x (first_state ELEMENTS) past))))

-- an element's steps done never fall
pub done_grows : (past events : List Event) → Begins past events → IsAllowed events → (element : ℕ) → done_at past element ≤ done_at events element
done_grows past events b new x = omega (arith, counted_done past (allowed_before past events b new) x, counted_done events new x, many_more (is_done x) past b.0, ap (count_by (is_done x)) b.1)

-- it counts the step after so many
abbrev counts_it : ℕ → ℕ → MadeEvent → Bool
counts_it x n m = counts_step x m && eqb (n + 1) (m.number + 1)

-- of the list of the only hand as many count it as are in the range of the numbers
counted_once : (past : List Event) (l : List MadeEvent) (x n : ℕ) → IsAllowed past → AreMade past (l ∷ []) → count_by (counts_it x n) l ≡ count_by (eqb (n + 1)) (range_with_len 1 (done_of x (state_after past)))
counted_once past l x n allowed m = sym (many_shuffled (counts_it x n) l (map entry_of m.log) (filed_shuffle m.log l m.listed))
    ∙ (ap (count_by (counts_it x n)) m.logged ∙ (sym (count_mapped (counts_step x) (eqb (n + 1)) (λ (m : MadeEvent). m.number + 1) (numbered begun past))
    ∙ ap (count_by (eqb (n + 1))) (numbers_are past allowed x)))

-- the list of the only hand counts each step once
pub steps_once : (past : List Event) (l : List MadeEvent) → IsAllowed past → AreMade past (l ∷ []) → StepsOnce l (elements_after past)
steps_once past l allowed m = record {
  once = λ i j x a b at at' up up' same. dite (ℕ_discrete i j) (λ e. e) (λ ne.
      let n : ℕ = a.number in let d : ℕ = done_of x (state_after past) in
      let two = many_two (counts_it x n) l i j a b at at' (rw (up, eq-eqb (n + 1) (n + 1) refl) refl) (rw (up', eq-eqb (n + 1) (b.number + 1) (ap (λ k. k + 1) same)) refl) ne in
      let is = counted_once past l x n allowed m in dite (dec_lt n d)
      (λ low. absurd (omega (arith, is, two, range_in 1 d (n + 1) (omega arith) (omega arith))))
      (λ no. absurd (omega (arith, is, two, range_far 1 d (n + 1) (omega (arith, no))))));
  all = λ x n below.
      let is = counted_once past l x n allowed m ∙ range_in 1 (done_of x (state_after past)) (n + 1) (omega arith) (omega (arith, below, done_is past x)) in
      let f = found_at (counts_it x n) l (omega (arith, is)) in
      let passes = and_parts (counts_step x f.1) (eqb (n + 1) (f.1.number + 1)) f.3 in
      (f.0, f.1, f.2, passes.0, omega (arith, eqb-true (n + 1) (f.1.number + 1) passes.1));
}
