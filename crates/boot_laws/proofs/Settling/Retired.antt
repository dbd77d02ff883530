-- An element was retired once, after all its steps, if it is free at the end.
use Rattle.turn_dispatch.proofs.Common.{◌==◌, ◌&&◌, MadeEvent, made_in, View, taking_by, done_at, thread_at, elements_of, tally}
use Rattle.boot_laws.proofs.Common.{same_pair, IsOnceWhere, is_free, place_of, is_back, if◌then◌else◌, state_after, IsAllowed, after_none}
use Rattle.boot_laws.proofs.Settling.Common.{drop, AllByRecursion, result_unwrap_or, dite, dec_lt, step, first_state, in_list, left, cases_lt, concat, moves, all_append, ELEMENTS, Place, ClosedNow, StandsAt, is_left, AreMade, elements_after, ring_at, first_runs, takings_in, plus, many_cons, by_bool, any_is, some_count, is_less, many_more, lawful_after, le-ltb}
use Rattle.thread_table.proofs.Common.{◌≡◌, ⊎_elim, ℕ, ◌+◌, ◌<◌, ◌≤◌, Bool, true, false, eqb_tells, List, [], ◌∷◌, ◌++◌, ◌∙◌, length, refl, sym, ap, subst, arith, count_by, flat_map, append_assoc, State, Event, Elements, nat_lt}
use Rattle.event_theory.specs.declared.event.Event.TheVariants as events
use Rattle.event_theory.specs.declared.names.QueueName.TheVariants as names
use Rattle.thread_table.specs.declared.places.Place.TheVariants as places
use Rattle.turn_dispatch.proofs.MadeBy.{retired_by, taken_by}
use Rattle.boot_laws.proofs.Settling.Freed.{first_item, freed, steady, after_one, left_is, once_left, only_free, first_gone, first_still}
use Rattle.boot_laws.proofs.Settling.Moves.{by_move, of_schedule}
use Rattle.boot_laws.proofs.Settling.Steps.{turned}

-- AS MANY STEPS AS AT THE END

-- the number is the element's number of steps done at the end
abbrev IsLast : List Event → ℕ × ℕ → Type 0
IsLast past r = r.1 ≡ done_at past r.0

one_last : (event : Event) (front back : List Event) → IsAllowed (front ++ event ∷ back) → takings_in (front ++ event ∷ back) ≤ 64
    → AllByRecursion (IsLast (front ++ event ∷ back)) (retired_by (made_in event (state_after front)))
one_last (events.Claim call names.Free items) front back allowed few =
    (ap (λ (e : Elements). (thread_at e (first_item items)).done) (sym (elements_of front)) ∙ steady call items front back allowed few, tt)
one_last event front back allowed few = tt

all_last : (es front : List Event) → IsAllowed (front ++ es) → takings_in (front ++ es) ≤ 64
    → AllByRecursion (IsLast (front ++ es)) (flat_map (by_move retired_by) (moves (state_after front) es))
all_last [] front allowed few = tt
all_last (e ∷ es) front allowed few =
    let same : (front ++ e ∷ []) ++ es ≡ front ++ e ∷ es = append_assoc front (e ∷ []) es in
    let rest = all_last es (front ++ e ∷ []) (subst IsAllowed (sym same) allowed) (subst (λ z. takings_in z ≤ 64) (sym same) few) in
    let next : State = result_unwrap_or (step e (state_after front)) (state_after front) in
    all_append (IsLast (front ++ e ∷ es)) (by_move retired_by (e, state_after front)) (flat_map (by_move retired_by) (moves next es)) (one_last e front es allowed few)
    (subst (λ z. AllByRecursion (IsLast z) (flat_map (by_move retired_by) (moves next es))) same
    (subst (λ s. AllByRecursion (IsLast ((front ++ e ∷ []) ++ es)) (flat_map (by_move retired_by) (moves s es))) (after_one front e) rest))

-- HOW OFTEN

-- the number, if the test holds
abbrev when : Bool → ℕ → ℕ
when b k = if b then k else 0

when_none : (b : Bool) → when b 0 ≡ 0
when_none true = refl
when_none false = refl

when_more : (b : Bool) (j k : ℕ) → when b (j + k) ≡ when b j + when b k
when_more true j k = refl
when_more false j k = refl

when_both : (a b : Bool) → plus (a && b) ≡ when b (plus a)
when_both true true = refl
when_both true false = refl
when_both false true = refl
when_both false false = refl

module _ (x : ℕ) where
  abbrev is_of : ℕ × ℕ → Bool
  is_of r = r.0 == x

  -- if all are reported with one number, a pair with this number is there as often as its element, and no other pair
  module _ (n : ℕ) (past : List Event) where
    abbrev is_at : Bool
    is_at = n == done_at past x

    one_as_often : (r : ℕ × ℕ) → IsLast past r → same_pair (x, n) r ≡ (is_of r && is_at)
    one_as_often r last = ⊎_elim
        (λ t. λ i. turned x r.0 i && (n == (last ∙ ap (done_at past) (sym t.1)) i))
        (λ f. ap (λ b. b && (n == r.1)) f.0 ∙ ap (λ b. b && is_at) (sym (turned r.0 x ∙ f.0)))
        (eqb_tells x r.0)

    as_often : (rs : List (ℕ × ℕ)) → AllByRecursion (IsLast past) rs → count_by (same_pair (x, n)) rs ≡ when is_at (count_by is_of rs)
    as_often [] all = sym (when_none is_at)
    as_often (r ∷ rs) all = let a = ap plus (one_as_often r all.0) in let b = as_often rs all.1 in let c = many_cons (same_pair (x, n)) r rs in let d = many_cons is_of r rs in
        let e = when_both (is_of r) is_at in let f = when_more is_at (plus (is_of r)) (count_by is_of rs) in
        let g : when is_at (count_by is_of (r ∷ rs)) ≡ when is_at (plus (is_of r) + count_by is_of rs) = ap (when is_at) d in omega arith

  -- the element was put there as often as is reported
  put_reported : (s : State) (es : List Event) → count_by is_of (flat_map (by_move retired_by) (moves s es)) ≡ in_list x (freed es)
  put_reported s [] = refl
  put_reported s (events.Claim call names.Free items ∷ es) = let e : Event = events.Claim call names.Free items in let t : State = result_unwrap_or (step e s) s in
      let r : ℕ × ℕ = (first_item items, (thread_at s.elements (first_item items)).done) in
      let a = many_cons is_of r (flat_map (by_move retired_by) (moves t es)) in let b = many_cons (λ item. item == x) (first_item items) (freed es) in let c = put_reported t es in omega arith
  put_reported s (e ∷ es) = put_reported (result_unwrap_or (step e s) s) es

-- TAKINGS

abbrev always : ℕ → Bool
always count = true

all_pass : (xs : List ℕ) → count_by always xs ≡ length xs
all_pass [] = refl
all_pass (x ∷ xs) = let a = many_cons always x xs in let b = all_pass xs in omega arith

reported_takings : (s : State) (es : List Event) → flat_map (by_move taken_by) (moves s es) ≡ flat_map taking_by es
reported_takings s [] = refl
reported_takings s (e ∷ es) = ap (λ z. taking_by e ++ z) (reported_takings (result_unwrap_or (step e s) s) es)

takings_reported : (past : List Event) (l : List MadeEvent) → AreMade past (l ∷ []) → length (flat_map taken_by l) ≡ takings_in past
takings_reported past l made = sym (all_pass (flat_map taken_by l)) ∙ (of_schedule taken_by (λ call other s. refl) always past l made
    ∙ (ap (count_by always) (reported_takings (first_state ELEMENTS) past) ∙ all_pass (flat_map taking_by past)))

-- THE CLOSED TABLE

free_is : (place : Place) → is_free place ≡ true → place ≡ places.Free
free_is places.Free is = refl
free_is place is = absurd (cc)

module _ (x n call : ℕ) (v : View) (stands : List Place) (pcs pending : List ℕ) (stops : ℕ) (c : ClosedNow call v stands pcs pending stops)
    (took : length (tally v.own.made).taken ≤ ELEMENTS) (low : x < ELEMENTS) where
  abbrev past : List Event
  past = v.seen.object

  abbrev many : ℕ
  many = takings_in past

  many_are : length (tally v.own.made).taken ≡ many
  many_are = takings_reported past v.own.made c.made

  few : many ≤ 64
  few = let m = many_are in let t = took in omega arith

  abbrev reported : List (ℕ × ℕ)
  reported = flat_map (by_move retired_by) (moves (first_state ELEMENTS) past)

  -- the element is among the free once if it is reported there, and otherwise not
  abbrev frees : List ℕ
  frees = left (ring_at (elements_after past) 1)

  once_free : in_list x frees ≡ when (is_free (place_of stands x)) 1
  once_free = by_bool (is_free (place_of stands x))
      (λ free. let here : is_left x (ring_at (elements_after past) 1) ≡ true = subst (StandsAt call x (elements_after past)) (free_is (place_of stands x) free) (c.places x low) in
      let some = some_count (λ item. item == x) frees here in let most = once_left x (elements_after past) (lawful_after past c.allowed) in
      let one : in_list x frees ≡ 1 = omega arith in one ∙ ap (λ b. when b 1) (sym free))
      (λ other. dite (dec_lt 0 (in_list x frees))
      (λ some. let here : is_left x (ring_at (elements_after past) 1) ≡ true = any_is (λ item. item == x) frees ∙ is_less 0 (in_list x frees) some in
      let free = only_free x (elements_after past) call (lawful_after past c.allowed) here (place_of stands x) (c.places x low) in
      let z : true ≡ false = sym (ap is_free free) ∙ other in absurd (cc))
      (λ no. let none : in_list x frees ≡ 0 = omega (arith, no) in none ∙ ap (λ b. when b 1) (sym other)))

  -- so it was put there once if it was taken of the first and is free
  once_put : count_by (is_of x) reported ≡ when (nat_lt x many && is_free (place_of stands x)) 1
  once_put = let put = put_reported x (first_state ELEMENTS) past in let once = once_free in
      let parts : in_list x frees ≡ in_list x (drop many (concat first_runs)) + in_list x (freed past) = ap (in_list x) (left_is past c.allowed few) ∙ many_more (λ item. item == x) (drop many (concat first_runs)) (freed past) in
      ⊎_elim
      (λ gone. let none = first_gone x many gone in let is : count_by (is_of x) reported ≡ when (is_free (place_of stands x)) 1 = omega arith in
      is ∙ ap (λ b. when (b && is_free (place_of stands x)) 1) (sym (is_less x many gone)))
      (λ still. let one = first_still x many still low in let most = once_left x (elements_after past) (lawful_after past c.allowed) in
      let none : count_by (is_of x) reported ≡ 0 = omega arith in none ∙ ap (λ b. when (b && is_free (place_of stands x)) 1) (sym (le-ltb x many still)))
      (cases_lt x many)

  pub retired_settle : IsOnceWhere (is_back (length (tally v.own.made).taken) stands pcs x n) (x, n) (tally v.own.made).retired
  retired_settle =
      of_schedule retired_by (λ call other s. refl) (same_pair (x, n)) past v.own.made c.made
      ∙ (as_often x n past reported (subst (λ s. AllByRecursion (IsLast past) (flat_map (by_move retired_by) (moves s past))) after_none.0 (all_last past [] c.allowed few))
      ∙ (ap (when (n == done_at past x)) once_put
      ∙ (by (nat_lt x many && is_free (place_of stands x)) (n == done_at past x)
      ∙ (λ i. when (nat_lt x (sym many_are i) && is_free (place_of stands x) && (n == sym (c.steps x low) i)) 1))))
    where
      by : (a b : Bool) → when b (when a 1) ≡ when (a && b) 1
      by true true = refl
      by true false = refl
      by false true = refl
      by false false = refl
