-- The free elements, if no more were taken than there were at first: those that events put there are left, once each,
-- and do no step.
use Rattle.turn_dispatch.proofs.Common.{◌==◌, ◌&&◌, ◌||◌, flat_map-append, is_done, taking_by, done_at, counted_done, elements_of}
use Rattle.boot_laws.proofs.Settling.Common.{eq-eqb, map, drop, sum_by, AllByRecursion, result_unwrap_or, dite, dec_lt, Reaches, step, effect, empty_queue, left, claim, claim_element, done, is_on, in_list, Refusal, change_at, Thread, new_thread, slice_get, wait_ring, Place, StandsAt, is_left, concat, TooLong, Full, then_ok, test_ok, change_ok, all_append, elements_after, ring_at, first_runs, takings_in, plus, many_cons, many_more, find_it, some_count, range_in, lawful_after}
use Rattle.thread_table.proofs.Common.{◌≡◌, ⊎_elim, ℕ, ◌+◌, ◌≤◌, Bool, true, false, not, eqb_tells, List, [], ◌∷◌, ◌++◌, ◌∙◌, length, get_or, refl, sym, ap, subst, arith, Option, None, Some, Ok, Result, count_by, flat_map, list_any, append_assoc, map-append, length-append, State, Event, Hold, Elements, IsLawfulElements, Queue, Run, flat, holds, is_put, appearances, UnknownName, eqb, nat_tests, nat_lt, ◌≢◌, suc, zero, in_cell, sum_by-cons, if◌then◌else◌, ◌-◌, range_with_len, ◌<◌}
use Rattle.thread_table.specs.declared.places.Place.TheVariants as places
use Rattle.std.proofs.lemmas.Bool.{not-false, or_cases}
use Rattle.boot_laws.proofs.Common.{drop-append-le, concat-append, sum_by-le-sum_by, after, begun, state_after, IsAllowed, are_reported, range_out, allowed_before}
use Rattle.event_theory.specs.declared.event.Event.TheVariants as events
use Rattle.event_theory.specs.declared.names.QueueName.TheVariants as names
use Rattle.event_theory.specs.declared.refusal.Refusal.TheVariants.{NoItems, NotHeld}
use Rattle.thread_table.specs.Retiring.{items_of, retired_by, retired_in}
use Rattle.thread_table.proofs.Hands.Releases.{held_counts}
use Rattle.boot_laws.proofs.Settling.Steps.{turned}

-- WHAT EVENTS PUT THERE

abbrev pub first_item : List ℕ → ℕ
first_item items = get_or items 0 0

-- the elements that events added to the free ones, in the order of the events
abbrev pub freed : List Event → List ℕ
freed es = map first_item (flat_map retired_by es)

freed_more : (a b : List Event) → freed (a ++ b) ≡ freed a ++ freed b
freed_more a b = ap (map first_item) (flat_map-append retired_by a b) ∙ map-append first_item (flat_map retired_by a) (flat_map retired_by b)

abbrev IsOne : List ℕ → Type 0
IsOne items = length items ≡ 1

one_of : (k : ℕ) → eqb k 0 ≡ false → nat_lt 1 k ≡ false → k ≡ 1
one_of k some few = grind (arith, nat_tests)

one_run : (event : Event) (s t : State) → step event s ≡ Ok t → AllByRecursion IsOne (retired_by event)
one_run (events.Claim call names.Free items) s t ok =
    let a = then_ok (effect (events.Claim call names.Free items) s) _ t ok in
    let b = then_ok (claim_element 1 call items s.elements) _ a.0 a.1 in
    let c = test_ok _ UnknownName _ b.0 b.1 in
    let d = then_ok (change_at 1 (claim 1 call items) s.elements.rings) _ b.0 c.1 in
    let e = change_ok 1 (claim 1 call items) s.elements.rings d.0 d.1 in
    let f = test_ok (eqb (length items) 0) NoItems _ e.1 e.3 in
    let g = test_ok (nat_lt 1 (length items)) TooLong _ e.1 f.1 in
    (one_of (length items) f.0 g.0, tt)
one_run event s t ok = tt

all_one : (s : State) (es : List Event) (t : State) → Reaches s es t → AllByRecursion IsOne (flat_map retired_by es)
all_one s [] t h = tt
all_one s (e ∷ es) t h = all_append IsOne (retired_by e) (flat_map retired_by es) (one_run e s h.0 h.1) (all_one h.0 es t h.2)

listed : (es : List Event) → flat_map retired_by es ≡ retired_in es
listed [] = refl
listed (e ∷ es) = ap (λ xs. retired_by e ++ xs) (listed es)

-- WHAT IS LEFT

flat_runs : (runs : List Run) → flat runs ≡ concat (map items_of runs)
flat_runs [] = refl
flat_runs (run ∷ runs) = ap (λ z. run.items ++ z) (flat_runs runs)

one_item : (items : List ℕ) → IsOne items → items ≡ first_item items ∷ []
one_item [] one = absurd (omega arith)
one_item (x ∷ []) one = refl
one_item (x ∷ y ∷ items) one = absurd (omega arith)

firsts : (runs : List (List ℕ)) → AllByRecursion IsOne runs → concat runs ≡ map first_item runs
firsts [] one = refl
firsts (items ∷ runs) one = λ i. one_item items one.0 i ++ firsts runs one.1 i

-- the elements that are free: some of the first, followed by those that events put there
pub left_is : (past : List Event) → IsAllowed past → takings_in past ≤ 64 → left (ring_at (elements_after past) 1) ≡ drop (takings_in past) (concat first_runs) ++ freed past
unfolding IsAllowed
left_is past allowed few =
    let q : Queue = ring_at (elements_after past) 1 in let reported = are_reported past allowed in let all : List (List ℕ) = flat_map retired_by past in
    let following : concat all ≡ freed past = firsts all (all_one begun past (state_after past) allowed) in
    let items : flat q.history ≡ concat first_runs ++ freed past = flat_runs q.history
    ∙ (ap concat (reported.0 ∙ ap (λ z. first_runs ++ z) (sym (listed past))) ∙ (concat-append first_runs all ∙ ap (λ z. concat first_runs ++ z) following)) in
    let long : length (concat first_runs) ≡ 64 = refl in
    (λ i. drop (reported.1 i) (items i)) ∙ drop-append-le (takings_in past) (concat first_runs) (freed past) (omega arith)

-- the elements left of the first 64, which go in the order of their numbers: those from the number of takings on
drop_range : (k a n : ℕ) → drop k (range_with_len a n) ≡ range_with_len (a + k) (n - k)
drop_range zero a n = let x : a ≡ a + 0 = omega arith in let y : n ≡ n - 0 = omega arith in λ i. range_with_len (x i) (y i)
drop_range (suc k) a zero = let y : 0 ≡ 0 - suc k = omega arith in ap (range_with_len (a + suc k)) y
drop_range (suc k) a (suc n) = let x : a + 1 + k ≡ a + suc k = omega arith in let y : n - k ≡ suc n - suc k = omega arith in
    drop_range k (a + 1) n ∙ (λ i. range_with_len (x i) (y i))

counted_so : (x : ℕ) (xs : List ℕ) → in_list x xs ≡ count_by (eqb x) xs
counted_so x [] = refl
counted_so x (y ∷ xs) = let a = many_cons (λ item. item == x) y xs in let b = many_cons (eqb x) y xs in let c = counted_so x xs in let d = ap plus (turned y x) in omega arith

pub first_gone : (x k : ℕ) → x < k → in_list x (drop k (concat first_runs)) ≡ 0
first_gone x k low = ap (in_list x) (drop_range k 0 64) ∙ (counted_so x (range_with_len (0 + k) (64 - k)) ∙ range_out (0 + k) (64 - k) x (omega arith))

pub first_still : (x k : ℕ) → k ≤ x → x < 64 → in_list x (drop k (concat first_runs)) ≡ 1
first_still x k high low = ap (in_list x) (drop_range k 0 64) ∙ (counted_so x (range_with_len (0 + k) (64 - k)) ∙ range_in (0 + k) (64 - k) x (omega arith) (omega arith))

-- AN ELEMENT IS AT ONE PLACE

cell_at : (ts : List Thread) (y : ℕ) → (get_or ts y new_thread).parked ≡ true → in_cell (slice_get ts y) ≡ 1
cell_at [] y is = absurd (cc)
cell_at (t ∷ ts) zero is = ap (λ b. if b then 1 else 0) is
cell_at (t ∷ ts) (suc y) is = cell_at ts y is

-- one part of a sum, and two, if the default isn't counted
one_sum : {X : Type 0} (f : X → ℕ) (xs : List X) (i : ℕ) (d : X) → f d ≡ 0 → f (get_or xs i d) ≤ sum_by f xs
one_sum f [] i d none = omega arith
one_sum f (x ∷ xs) zero d none = let c = sum_by-cons f x xs in omega arith
one_sum f (x ∷ xs) (suc i) d none = let c = sum_by-cons f x xs in let m = one_sum f xs i d none in omega arith

two_sum : {X : Type 0} (f : X → ℕ) (xs : List X) (i j : ℕ) (d : X) → f d ≡ 0 → i ≢ j → f (get_or xs i d) + f (get_or xs j d) ≤ sum_by f xs
two_sum f [] i j d none apart = omega arith
two_sum f (x ∷ xs) zero zero d none apart = absurd (apart refl)
two_sum f (x ∷ xs) zero (suc j) d none apart = let c = sum_by-cons f x xs in let m = one_sum f xs j d none in omega arith
two_sum f (x ∷ xs) (suc i) zero d none apart = let c = sum_by-cons f x xs in let m = one_sum f xs i d none in omega arith
two_sum f (x ∷ xs) (suc i) (suc j) d none apart = let c = sum_by-cons f x xs in let m = two_sum f xs i j d none (λ e. apart (ap suc e)) in omega arith

module _ (x : ℕ) (e : Elements) where
  in_ring : in_list x (left (ring_at e 1)) ≤ sum_by (λ q. in_list x (left q)) e.rings
  in_ring = one_sum (λ q. in_list x (left q)) e.rings 1 (empty_queue 64) refl

  few_places : IsLawfulElements e → appearances x e ≤ 1
  few_places lawful = dite (dec_lt x (length e.threads))
      (λ low. let o = lawful.once x low in omega arith)
      (λ no. let o = lawful.known x (omega (arith, no)) in omega arith)

  pub once_left : IsLawfulElements e → in_list x (left (ring_at e 1)) ≤ 1
  once_left lawful = let a = few_places lawful in let b = in_ring in omega arith

  put_counts : (call : ℕ) (seats : List (Option Hold)) → list_any (is_put call x) seats ≡ true → 1 ≤ count_by (is_on x) seats
  put_counts call seats any = let a = some_count (is_put call x) seats any in
      let b = sum_by-le-sum_by (λ seat. plus (is_put call x seat)) (λ seat. plus (is_on x seat)) seats less in omega arith
    where
      less : (seat : Option Hold) → plus (is_put call x seat) ≤ plus (is_on x seat)
      less None = omega arith
      less (Some h) = both (h.call == call) (h.element == x)
        where
          both : (a b : Bool) → plus (a && b) ≤ plus b
          both true b = omega arith
          both false b = omega arith

  -- so a free element is in nobody's hands
  in_no_hands : (call : ℕ) → IsLawfulElements e → 1 ≤ in_list x (left (ring_at e 1)) → (holds call x e || list_any (is_put call x) e.processors) ≡ true → ⊥
  in_no_hands call lawful free may = let a = few_places lawful in let b = in_ring in ⊎_elim
      (λ held. let h = held_counts call x e.held held in omega arith)
      (λ put. let p = put_counts call e.processors put in omega arith)
      (or_cases (holds call x e) (list_any (is_put call x) e.processors) may)

  -- a free element is at no other place
  module _ (call : ℕ) (lawful : IsLawfulElements e) (free : is_left x (ring_at e 1) ≡ true) where
    few : 1 ≤ in_list x (left (ring_at e 1)) × appearances x e ≤ 1
    few = (some_count (λ item. item == x) (left (ring_at e 1)) free, few_places lawful)

    other_ring : (ring : ℕ) → ring ≢ 1 → is_left x (ring_at e ring) ≡ true → ⊥
    other_ring ring apart there = let m = two_sum (λ q. in_list x (left q)) e.rings ring 1 (empty_queue 64) refl apart in let f = few.0 in let o = few.1 in
        let t = some_count (λ item. item == x) (left (ring_at e ring)) there in omega arith

    pub only_free : (place : Place) → StandsAt call x e place → place ≡ places.Free
    only_free places.Free h = refl
    only_free (places.Processor p) h = let m = one_sum (λ (seat : Option Hold). plus (is_on x seat)) e.processors p None refl in let one : plus (is_on x (get_or e.processors p None)) ≡ 1 = ap plus h in
        let r = in_ring in let f = few.0 in let o = few.1 in absurd (omega arith)
    only_free places.Ready h = absurd (other_ring 0 (λ z. omega arith) h)
    only_free (places.Wait wait) h = absurd (other_ring (wait_ring wait) (λ z. omega arith) h)
    only_free places.Stopped h = let c = cell_at e.threads x h in let r = in_ring in let f = few.0 in let o = few.1 in absurd (omega arith)
    only_free places.Held h = let t = held_counts call x e.held h in let r = in_ring in let f = few.0 in let o = few.1 in absurd (omega arith)

-- a free element does no step
done_may : (call x : ℕ) (s t : Elements) → done call x s ≡ Ok t → (holds call x s || list_any (is_put call x) s.processors) ≡ true
done_may call x s t ok =
    let a = then_ok (change_at x _ s.threads) _ t ok in
    let d = change_ok x _ s.threads a.0 a.1 in
    let b = test_ok (eqb d.0.done 4294967295) Full _ d.1 d.3 in
    let c = test_ok (not (holds call x s || list_any (is_put call x) s.processors)) NotHeld _ d.1 b.1 in
    not-false (holds call x s || list_any (is_put call x) s.processors) c.0

module _ (x : ℕ) where
  no_step : (event : Event) (s t : State) → IsLawfulElements s.elements → 1 ≤ in_list x (left (ring_at s.elements 1)) → is_done x event ≡ true → step event s ≡ Ok t → ⊥
  no_step (events.Done call e) s t lawful free is ok =
      let a = then_ok (effect (events.Done call e) s) _ t ok in
      let b = then_ok (done call e s.elements) _ a.0 a.1 in
      let may = done_may call e s.elements b.0 b.1 in
      ⊎_elim (λ same. in_no_hands x s.elements call lawful free (subst (λ k. (holds call k s.elements || list_any (is_put call k) s.elements.processors) ≡ true) same.1 may))
      (λ f. absurd (cc)) (eqb_tells e x)
  no_step event s t lawful free is ok = absurd (cc)

-- the event that comes next was allowed
next_in : (s : State) (past : List Event) (event : Event) (rest : List Event) (t : State) → Reaches s (past ++ event ∷ rest) t → (u : State) × (step event (after s past) ≡ Ok u)
unfolding after
next_in s [] event rest t r = (r.0, r.1)
next_in s (e ∷ es) event rest t r = let same : result_unwrap_or (step e s) s ≡ r.0 = ap (λ (z : Result State Refusal). result_unwrap_or z s) r.1 in
    subst (λ (z : State). (u : State) × (step event (after z es) ≡ Ok u)) (sym same) (next_in r.0 es event rest t r.2)

next_step : (past : List Event) (event : Event) (rest : List Event) → IsAllowed (past ++ event ∷ rest) → (u : State) × (step event (state_after past) ≡ Ok u)
unfolding IsAllowed state_after
next_step past event rest allowed = next_in begun past event rest (after begun (past ++ event ∷ rest)) allowed

-- the state after one event more
after_last : (s : State) (es : List Event) (event : Event) → after s (es ++ event ∷ []) ≡ result_unwrap_or (step event (after s es)) (after s es)
unfolding after
after_last s [] event = refl
after_last s (e ∷ es) event = after_last (result_unwrap_or (step e s) s) es event

pub after_one : (past : List Event) (event : Event) → state_after (past ++ event ∷ []) ≡ result_unwrap_or (step event (state_after past)) (state_after past)
unfolding state_after
after_one past event = after_last begun past event

takings_more : (a b : List Event) → takings_in (a ++ b) ≡ takings_in a + takings_in b
takings_more a b = ap length (flat_map-append taking_by a b) ∙ length-append (flat_map taking_by a) (flat_map taking_by b)

-- an element does no more step once it is added to the free ones
module _ (call : ℕ) (items : List ℕ) where
  abbrev put : Event
  put = events.Claim call names.Free items

  blocked : (front more : List Event) (event : Event) (rest : List Event) → IsAllowed ((front ++ put ∷ more) ++ event ∷ rest) → takings_in ((front ++ put ∷ more) ++ event ∷ rest) ≤ 64 → is_done (first_item items) event ≡ true → ⊥
  blocked front more event rest allowed few is =
      let x : ℕ = first_item items in let past : List Event = front ++ put ∷ more in
      let before : IsAllowed past = allowed_before past (past ++ event ∷ rest) (event ∷ rest, refl) allowed in
      let t = takings_more past (event ∷ rest) in
      let there : in_list x (freed past) ≡ in_list x (freed front) + (plus (x == x) + in_list x (freed more)) = ap (in_list x) (freed_more front (put ∷ more))
      ∙ (many_more (λ item. item == x) (freed front) (x ∷ freed more) ∙ ap (λ z. in_list x (freed front) + z) (many_cons (λ item. item == x) x (freed more))) in
      let itself : plus (x == x) ≡ 1 = ap plus (eq-eqb x x refl) in
      let free : in_list x (left (ring_at (elements_after past) 1)) ≡ _ = ap (in_list x) (left_is past before (omega arith)) ∙ many_more (λ item. item == x) (drop (takings_in past) (concat first_runs)) (freed past) in
      let some : 1 ≤ in_list x (left (ring_at (elements_after past) 1)) = omega arith in
      let next = next_step past event rest allowed in
      no_step x event (state_after past) next.0 (subst IsLawfulElements (elements_of past) (lawful_after past before))
      (subst (λ (e : Elements). 1 ≤ in_list x (left (ring_at e 1))) (elements_of past) some) is next.1

  pub steady : (front back : List Event) → IsAllowed (front ++ put ∷ back) → takings_in (front ++ put ∷ back) ≤ 64 → done_at front (first_item items) ≡ done_at (front ++ put ∷ back) (first_item items)
  steady front back allowed few =
      let x : ℕ = first_item items in let all : List Event = front ++ put ∷ back in
      let a = counted_done front (allowed_before front all (put ∷ back, refl) allowed) x in
      let b = counted_done all allowed x in
      let c = many_more (is_done x) front (put ∷ back) in let d = many_cons (is_done x) put back in
      dite (dec_lt 0 (count_by (is_done x) back))
      (λ some. let f = find_it (is_done x) back some in
      let whole : all ≡ (front ++ put ∷ f.front) ++ f.it ∷ f.back = ap (λ z. front ++ put ∷ z) f.is ∙ sym (append_assoc front (put ∷ f.front) (f.it ∷ f.back)) in
      absurd (blocked front f.front f.it f.back (subst IsAllowed whole allowed) (subst (λ z. takings_in z ≤ 64) whole few) f.passes))
      (λ no. omega (arith, no))
