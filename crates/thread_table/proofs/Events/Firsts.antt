-- An element that is first in a queue, is in its stop cell or is on a processor is in nobody's hands.
use Rattle.thread_table.proofs.Common.{false_from_ne_true, ◌≡◌, ◌⊎◌, inl, inr, ℕ, ◌<◌, ◌≤◌, Bool, true, false, cond, List, [], ◌∷◌, ◌∙◌, length, take, get_or, slice_get, Option, Some, None, sym, ap, arith, get_or-eq_default, cases_lt, nat_tests, sum_by-cons, get_or-le-sum_by, sum_by, Queue, left, empty_queue, slice_get-get_or, get_or_from_slice_get, Hold, Elements, Thread, hold, holds, new_thread, appearances, in_list, in_cell, is_on, IsLawfulElements, one, in_hands, ring_at, thread_at, PLACES}
use Rattle.thread_table.proofs.Events.Rooms.{unheld}
use Rattle.thread_table.proofs.Hands.HeldLists.{held_once}

-- a number is counted once where it is itself
pub one_itself : (x : ℕ) → one x x ≡ 1
one_itself x = grind (arith, nat_tests)

-- the first of a list is in it
pub first_in_list : (element : ℕ) (items : List ℕ) → take 1 items ≡ element ∷ [] → 1 ≤ in_list element items
first_in_list element [] is = absurd (cc)
first_in_list element (x ∷ xs) is =
    let e : x ≡ element = ap (λ (z : List ℕ). get_or z 0 0) is in
    omega (arith, sum_by-cons (λ y. one y element) x xs, ap (λ y. one y element) e, one_itself element)

-- an empty queue has no first
pub first_of_empty : (element : ℕ) (q : Queue) → q ≡ empty_queue PLACES → take 1 (left q) ≡ element ∷ [] → ⊥
first_of_empty element q empty some = let n : ◌≡◌ {A = List ℕ} [] (element ∷ []) = ap (λ (z : Queue). take 1 (left z)) (sym empty) ∙ some in cc

-- the first element of a queue is in a queue
pub first_in_rings : (element ring : ℕ) (e : Elements) → take 1 (left (ring_at e ring)) ≡ element ∷ [] → 1 ≤ sum_by (λ q. in_list element (left q)) e.rings
first_in_rings element ring e is = by (cases_lt ring (length e.rings))
  where
    by : (ring < length e.rings) ⊎ (length e.rings ≤ ring) → 1 ≤ sum_by (λ q. in_list element (left q)) e.rings
    by (inl below) = omega (arith, first_in_list element (left (ring_at e ring)) is, get_or-le-sum_by (λ q. in_list element (left q)) e.rings ring (empty_queue PLACES) below)
    by (inr past) = absurd (first_of_empty element (ring_at e ring) (get_or-eq_default e.rings (empty_queue PLACES) past) is)

-- an element that is first in a queue is in nobody's hands
pub first_unheld : (call element ring : ℕ) (e : Elements) → IsLawfulElements e → take 1 (left (ring_at e ring)) ≡ element ∷ [] → holds call element e ≡ false
first_unheld call element ring e lawful is = unheld call element e.held (by (cases_lt element (length e.threads)))
  where
    by : (element < length e.threads) ⊎ (length e.threads ≤ element) → in_hands element e.held ≡ 0
    by (inl below) = let o : appearances element e ≡ 1 = lawful.once element below in omega (arith, o, first_in_rings element ring e is)
    by (inr past) = let o : appearances element e ≡ 0 = lawful.known element past in omega (arith, o)

celled : (element : ℕ) (threads : List Thread) → element < length threads → (get_or threads element new_thread).parked ≡ true → in_cell (slice_get threads element) ≡ 1
celled element threads below parked = ap in_cell (slice_get-get_or threads element new_thread below) ∙ ap (λ (b : Bool). cond b 1 0) parked

-- nor is one that is in its stop cell
pub parked_unheld : (call element : ℕ) (e : Elements) → IsLawfulElements e → element < length e.threads → (thread_at e element).parked ≡ true → holds call element e ≡ false
parked_unheld call element e lawful below is = false_from_ne_true (holds call element e) (λ held.
    let hands : in_hands element e.held ≡ 1 = held_once call element e lawful below held in
    let once : appearances element e ≡ 1 = lawful.once element below in
    absurd (omega (arith, once, hands, celled element e.threads below is)))

-- nor one that is on a processor
pub placed_unheld : (call element p : ℕ) (e : Elements) → IsLawfulElements e → element < length e.threads → p < length e.processors → slice_get e.processors p ≡ Some (Some (hold call element)) → holds call element e ≡ false
placed_unheld call element p e lawful below there is = false_from_ne_true (holds call element e) (λ held.
    let hands : in_hands element e.held ≡ 1 = held_once call element e lawful below held in
    let once : appearances element e ≡ 1 = lawful.once element below in
    let f : Option Hold → ℕ = λ x. cond (is_on element x) 1 0 in
    let stands : f (get_or e.processors p None) ≡ f (Some (hold call element)) =
    ap f (get_or_from_slice_get e.processors p (Some (hold call element)) None is) in
    absurd (omega (arith, once, hands, stands, one_itself element, get_or-le-sum_by f e.processors p None there)))
