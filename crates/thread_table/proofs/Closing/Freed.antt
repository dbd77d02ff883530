-- Elements that were put after the free elements are there at the end, if no more were taken than there were at first.
use Rattle.thread_table.proofs.Common.{◌≡◌, ◌≢◌, ℕ, zero, suc, ◌+◌, ◌<◌, ◌≤◌, Bool, true, false, List, [], ◌∷◌, ◌++◌, map, length, drop, get_or, refl, sym, ap, ◌∙◌, subst, arith, Option, None, slice_get, or-false, or_left, or_right, flat_map, if◌then◌else◌, list_any, AllByRecursion, result_unwrap_or, map-append, slice_get-get_or, get_or-eq_default, list_any-append, list_any-IsPermutation, sum_by-IsPermutation, sum_by-cons, dite, dec_lt, appearances, is_on, in_list, in_cell, Elements, Thread, new_thread, IsLawfulElements, IsLawfulQueue, Queue, empty_queue, left, Run, flat, run_length, State, step, Event, Hold, every_at, entry_of, ELEMENTS, PLACES, free_ring, wait_ring, Place, MadeEvent, View, ClosedNow, StandsAt, is_left, is_join, made_in, numbered, AreMade, items_of, retired_by, retired_in, taking_by, ring_at}
use Rattle.std.proofs.Common.{sum_by}
use Rattle.table_theory.proofs.Reaching.{all_after}
use Rattle.thread_table.proofs.Lists.Counts.{some_count}
use Rattle.thread_table.proofs.Hands.Releases.{held_counts}
use Rattle.std.specs.Prelude.{◌||◌, ◌==◌, slice_index_or}
use Rattle.std.specs.List.{concat}
use Rattle.std.proofs.lemmas.List.{drop-append-le}
use Rattle.std.proofs.lemmas.List.Concat.{length-flat_map}
use Rattle.std.proofs.lemmas.List.Folds.{concat-append}
use Rattle.event_theory.specs.declared.event.Event.TheVariants as events
use Rattle.event_theory.specs.declared.names.QueueName.TheVariants as names
use Rattle.thread_table.specs.declared.places.Place.TheVariants as places
use Rattle.thread_table.specs.Retiring.{free_takings, frees, was_freed}
use Rattle.thread_table.specs.Schedules.{begun, elements_after, IsAllowed}
use Rattle.thread_table.proofs.Lists.Counts.{plus, by_bool}
use Rattle.thread_table.proofs.Closing.Retiring.{first_runs, are_reported}
use Rattle.thread_table.proofs.Schedule.Schedules.{lawful_after}
use Rattle.thread_table.proofs.Lists.Shuffles.{filed_shuffle}

-- LISTS

concat_runs : (runs : List Run) → concat (map items_of runs) ≡ flat runs
concat_runs [] = refl
concat_runs (run ∷ runs) = ap (λ z. run.items ++ z) (concat_runs runs)

abbrev first_item : List ℕ → ℕ
first_item items = get_or items 0 0

abbrev HasSome : List ℕ → Type 0
HasSome items = 0 < length items

-- each run of a lawful queue has an item
all_solid : (history : List Run) → ((run : ℕ) → run < length history → 0 < run_length history run) → AllByRecursion HasSome (map items_of history)
all_solid [] solid = tt
all_solid (run ∷ history) solid = (solid 0 (omega arith), all_solid history (λ n low. solid (suc n) (omega arith)))

-- one entry's number is at most the sum, if the default's is 0
one_sum : {X : Type 0} (f : X → ℕ) (xs : List X) (i : ℕ) (d : X) → f d ≡ 0 → f (get_or xs i d) ≤ sum_by f xs
one_sum f [] i d none = omega arith
one_sum f (x ∷ xs) zero d none = let c = sum_by-cons f x xs in omega arith
one_sum f (x ∷ xs) (suc i) d none = let c = sum_by-cons f x xs in let m = one_sum f xs i d none in omega arith

-- two entries' numbers together are at most the sum, if the default's is 0
two_sum : {X : Type 0} (f : X → ℕ) (xs : List X) (i j : ℕ) (d : X) → f d ≡ 0 → i ≢ j → f (get_or xs i d) + f (get_or xs j d) ≤ sum_by f xs
two_sum f [] i j d none apart = omega arith
two_sum f (x ∷ xs) zero zero d none apart = absurd (apart refl)
two_sum f (x ∷ xs) zero (suc j) d none apart = let c = sum_by-cons f x xs in let m = one_sum f xs j d none in omega arith
two_sum f (x ∷ xs) (suc i) zero d none apart = let c = sum_by-cons f x xs in let m = one_sum f xs i d none in omega arith
two_sum f (x ∷ xs) (suc i) (suc j) d none apart = let c = sum_by-cons f x xs in let m = two_sum f xs i j d none (λ e. apart (ap suc e)) in omega arith

-- SCHEDULES

-- what the events give that is none of the joins', their numbered list gives
numbered_give : {B : Type 0} (give : Event → List B) → ((e : Event) → is_join e ≡ true → give e ≡ []) → (s : State) (es : List Event) → flat_map (λ (m : MadeEvent). give m.event) (numbered s es) ≡ flat_map give es
numbered_give give none s [] = refl
numbered_give give none s (e ∷ es) = let rest : List MadeEvent = numbered (result_unwrap_or (step e s) s) es in let ih = numbered_give give none (result_unwrap_or (step e s) s) es in by_bool (is_join e)
    (λ is. ap (λ (b : Bool). flat_map (λ (m : MadeEvent). give m.event) (if b then rest else (made_in e s ∷ rest))) is ∙ (ih ∙ ap (λ xs. xs ++ flat_map give es) (sym (none e is))))
    (λ isnt. ap (λ (b : Bool). flat_map (λ (m : MadeEvent). give m.event) (if b then rest else (made_in e s ∷ rest))) isnt ∙ ap (λ xs. give e ++ xs) ih)

-- a join takes and frees nothing
join_gives : (e : Event) → is_join e ≡ true → (taking_by e ≡ []) × (retired_by e ≡ [])
join_gives (events.Join call other) is = (refl, refl)
join_gives event is = absurd (cc)

all_retired : (es : List Event) → flat_map retired_by es ≡ retired_in es
all_retired [] = refl
all_retired (e ∷ es) = ap (λ xs. retired_by e ++ xs) (all_retired es)

module _ (x : ℕ) where
  abbrev is_it : ℕ → Bool
  is_it item = item == x

  -- a run begins with the element
  abbrev among : List (List ℕ) → Bool
  among runs = list_any is_it (map first_item runs)

  among_more : (a b : List (List ℕ)) → among (a ++ b) ≡ (among a || among b)
  among_more a b = ap (list_any is_it) (map-append first_item a b) ∙ list_any-append is_it (map first_item a) (map first_item b)

  frees_is : (event : Event) → frees x event ≡ among (retired_by event)
  frees_is (events.Claim call names.Free items) = sym (or-false (is_it (first_item items)))
  frees_is event = refl

  freed_is : (made : List MadeEvent) → was_freed x made ≡ among (flat_map (λ (m : MadeEvent). retired_by m.event) made)
  freed_is [] = refl
  freed_is (m ∷ made) = (λ k. frees_is m.event k || freed_is made k) ∙ sym (among_more (retired_by m.event) (flat_map (λ (m : MadeEvent). retired_by m.event) made))

  -- what was freed is left of a queue of which no more was taken than it had at first
  some_item : (runs : List (List ℕ)) → AllByRecursion HasSome runs → among runs ≡ true → list_any is_it (concat runs) ≡ true
  some_item [] all any = absurd (cc)
  some_item ([] ∷ runs) all any = absurd (let a = all.0 in omega arith)
  some_item ((y ∷ items) ∷ runs) all any = by_bool (is_it y)
      (λ is. or_left (is_it y) (list_any is_it (items ++ concat runs)) is)
      (λ isnt. or_right (is_it y) (list_any is_it (items ++ concat runs)) (list_any-append is_it items (concat runs)
      ∙ or_right (list_any is_it items) (list_any is_it (concat runs)) (some_item runs all.1 (sym (ap (λ z. z || among runs) isnt) ∙ any))))

  left_of_freed : (q : Queue) (retired : List (List ℕ)) → AllByRecursion HasSome (map items_of q.history) → map items_of q.history ≡ first_runs ++ retired → q.taken ≤ 64 → among retired ≡ true → is_left x q ≡ true
  left_of_freed q retired solid runs few any =
      let all : flat q.history ≡ concat first_runs ++ concat retired = sym (concat_runs q.history) ∙ (ap concat runs ∙ concat-append first_runs retired) in
      let many : length (concat first_runs) ≡ 64 = refl in
      let parts : left q ≡ drop q.taken (concat first_runs) ++ concat retired = ap (drop q.taken) all ∙ drop-append-le q.taken (concat first_runs) (concat retired) (omega arith) in
      ap (list_any is_it) parts
      ∙ (list_any-append is_it (drop q.taken (concat first_runs)) (concat retired)
      ∙ or_right (list_any is_it (drop q.taken (concat first_runs))) (list_any is_it (concat retired)) (some_item retired (all_after HasSome first_runs retired (subst (AllByRecursion HasSome) runs solid)) any))

  -- PLACES

  cell_at : (ts : List Thread) → (get_or ts x new_thread).parked ≡ true → in_cell (slice_get ts x) ≡ 1
  cell_at ts is = dite (dec_lt x (length ts))
      (λ low. ap in_cell (slice_get-get_or ts x new_thread low) ∙ ap (λ b. if b then 1 else 0) is)
      (λ no. let none : false ≡ true = sym (ap (λ (t : Thread). t.parked) (get_or-eq_default ts new_thread (omega (arith, no)))) ∙ is in absurd (cc))

  module _ (call : ℕ) (e : Elements) (lawful : IsLawfulElements e) (free : is_left x (ring_at e free_ring) ≡ true) where
    few : appearances x e ≤ 1
    few = dite (dec_lt x (length e.threads))
        (λ low. let o = lawful.once x low in omega arith)
        (λ no. let o = lawful.known x (omega arith) in omega arith)

    abbrev in_ring : Queue → ℕ
    in_ring q = in_list x (left q)

    here : 1 ≤ in_ring (ring_at e free_ring)
    here = some_count is_it (left (ring_at e free_ring)) free

    one_ring : 1 ≤ sum_by in_ring e.rings
    one_ring = let m = one_sum in_ring e.rings 1 (empty_queue PLACES) refl in let h = here in omega arith

    other_ring : (ring : ℕ) → ring ≢ 1 → is_left x (ring_at e ring) ≡ true → ⊥
    other_ring ring apart there =
        let m = two_sum in_ring e.rings ring 1 (empty_queue PLACES) refl apart in let h = here in
        let t : 1 ≤ in_ring (ring_at e ring) = some_count is_it (left (ring_at e ring)) there in let f = few in omega arith

    only_free : (place : Place) → StandsAt call x e place → place ≡ places.Free
    only_free places.Free h = refl
    only_free (places.Processor p) h = let m = one_sum (λ (seat : Option Hold). plus (is_on x seat)) e.processors p None refl in let one : plus (is_on x (get_or e.processors p None)) ≡ 1 = ap plus h in
        let o = one_ring in let f = few in absurd (omega arith)
    only_free places.Ready h = absurd (other_ring 0 (λ z. omega arith) h)
    only_free (places.Wait wait) h = absurd (other_ring (wait_ring wait) (λ z. omega arith) h)
    only_free places.Stopped h = let c = cell_at e.threads h in let o = one_ring in let f = few in absurd (omega arith)
    only_free places.Held h = let t = held_counts call x e.held h in let o = one_ring in let f = few in absurd (omega arith)

-- THE CLOSED TABLE

abbrev Solid : Queue → Type 0
Solid q = (run : ℕ) → run < length q.history → 0 < run_length q.history run

free_solid : (e : Elements) → IsLawfulElements e → Solid (ring_at e free_ring)
free_solid e lawful = dite (dec_lt 1 (length e.rings))
    (λ low. (every_at IsLawfulQueue e.rings 1 (ring_at e free_ring) (slice_get-get_or e.rings 1 (empty_queue PLACES) low) lawful.rings).solid)
    (λ no. subst Solid (sym (get_or-eq_default e.rings (empty_queue PLACES) (omega (arith, no)))) (λ run low. absurd (omega arith)))

-- as many free elements were taken as the list of the only hand has takings
taken_are : (past : List Event) (l : List MadeEvent) → IsAllowed past → AreMade past (l ∷ []) → (ring_at (elements_after past) 1).taken ≡ length (free_takings l)
taken_are past l allowed made = let takings : MadeEvent → List ℕ = λ m. taking_by m.event in let f : MadeEvent → ℕ = λ m. length (taking_by m.event) in
    (are_reported past allowed).1 ∙ (ap length (sym (numbered_give taking_by (λ e is. (join_gives e is).0) begun past)) ∙ (length-flat_map takings (numbered begun past)
    ∙ (ap (sum_by f) (sym made.logged) ∙ (sum_by-IsPermutation f l (map entry_of made.log) (filed_shuffle made.log l made.listed) ∙ sym (length-flat_map takings l)))))

freed_is_left : (past : List Event) (l : List MadeEvent) (x : ℕ) → IsAllowed past → AreMade past (l ∷ []) → length (free_takings l) ≤ 64 → was_freed x l ≡ true → is_left x (ring_at (elements_after past) 1) ≡ true
freed_is_left past l x allowed made few freed =
    let many = taken_are past l allowed made in
    let any = list_any-IsPermutation (λ (m : MadeEvent). frees x m.event) l (map entry_of made.log) (filed_shuffle made.log l made.listed) in
    let all : was_freed x (numbered begun past) ≡ among x (retired_in past) = freed_is x (numbered begun past) ∙ ap (among x) (numbered_give retired_by (λ e is. (join_gives e is).1) begun past ∙ all_retired past) in
    left_of_freed x (ring_at (elements_after past) 1) (retired_in past) (all_solid (ring_at (elements_after past) 1).history (free_solid (elements_after past) (lawful_after past allowed))) (are_reported past allowed).0 (omega arith)
    (sym all ∙ (ap (was_freed x) (sym made.logged) ∙ (sym any ∙ freed)))

pub freed_is_reported : (call : ℕ) (v : View) (stands : List Place) (pcs pending : List ℕ) (stops x : ℕ) → ClosedNow call v stands pcs pending stops → length (free_takings v.own.made) ≤ 64 → x < ELEMENTS → was_freed x v.own.made ≡ true → slice_index_or stands x places.Held ≡ places.Free
freed_is_reported call v stands pcs pending stops x closed few low freed =
    only_free x call (elements_after v.seen.object) (lawful_after v.seen.object closed.allowed)
    (freed_is_left v.seen.object v.own.made x closed.allowed closed.made few freed) (slice_index_or stands x places.Held) (closed.places x low)
