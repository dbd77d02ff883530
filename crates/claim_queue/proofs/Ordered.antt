-- An end's runs, and its takings, stay in order through its calls.
use Rattle.claim_queue.proofs.Common.{◌≡◌, ◌∙◌, ⊎_elim, ℕ, ◌+◌, ◌<◌, ◌≤◌, Bool, List, [], ◌∷◌, ◌++◌, length, refl, sym, ap, subst, arith, Result, Ok, Err, length-map, le_prop, ∥∥₁_elim, ∥∥₁_map, some, get_elem?, Batch, Positions, load, change, IsValidView, Grows, item_of, tail_of, with_take, at_push, passes_since, reaches_since, reaches_one, reaches_other, ClaimRefusal, TakeRefusal, QueueOps, tail_word, ends_word, View, of_queues, did_both, taking, Refused, run_of, JoinedBy, IsPut, PutAnswer, TookItems, RefusedTake, scanned, passes_split}
use Rattle.table_theory.specs.Interleaving.{InOrder}
use Rattle.table_theory.proofs.Ordering.{order_push}
use Rattle.claim_queue.specs.Orders.{TakesInOrder}
use Rattle.claim_queue.specs.Closings.{ShutNow}
use Rattle.claim_queue.proofs.Answered.{Does, does, refused_own, refused_take_own, put_own, answer_own}
use Rattle.claim_queue.proofs.Growing.{reaches_grow}
use Rattle.claim_queue.proofs.Raising.{places_length}

-- CLAIMS

-- a line was put, or the try refused, and the runs stay in order
pub answer_order : (room : ℕ) (v w : View) (items : List ℕ) (r : Result ℕ ClaimRefusal) → PutAnswer room v items r w → InOrder v.own.runs → InOrder w.own.runs
answer_order room v w items (Ok start) h up = let c = h.3.2 in let long = places_length items (length items) in let some_item = c.4.0 in
    subst InOrder (λ i. (sym c.6.did i).runs) (order_push v.own.runs (run_of start items (length items)) up h.0 (omega arith))
answer_order room v w items (Err r) h up = subst InOrder (λ i. (sym (answer_own room v w items (Err r) h).did i).runs) up

-- TAKINGS

abbrev Behind : List Batch → ℕ → Type 0
Behind takes tail = (m : ℕ) (e : Batch) → get_elem? takes m ≡ some e → e.start + length e.places ≤ tail

module _ (v w : View) (x : IsValidView of_queues v) (y : IsValidView of_queues w) where
  -- nothing was taken, and the queue went on
  does_order : (own : QueueOps) → own.takes ≡ v.own.takes → Does v own w → TakesInOrder v → TakesInOrder w
  does_order own same d up =
      let g = reaches_grow v.seen w.seen (reaches_since of_queues v w d.steps x y d.adds) in let f = g.first in let m = g.further in
      let takes : w.own.takes ≡ v.own.takes = (λ i. (d.did i).takes) ∙ same in
      (subst InOrder (sym takes) up.0, subst (λ (z : List Batch). Behind z (tail_of w.seen.object)) (sym takes) (λ m e at. let h = up.1 m e at in omega arith))

  pub refused_order : (Few Enough : List ℕ → Type 0) (room : ℕ) (r : TakeRefusal) → RefusedTake Few Enough room v r w → TakesInOrder v → TakesInOrder w
  refused_order Few Enough room r h = does_order v.own refl (refused_take_own Few Enough room v w r h)

  pub refused_claim : (room n : ℕ) (r : ClaimRefusal) → Refused room v n r w → TakesInOrder v → TakesInOrder w
  refused_claim room n r h = does_order v.own refl (refused_own room n v w r h)

  pub put_order : (room start : ℕ) (items : List ℕ) → IsPut room v start items w → TakesInOrder v → TakesInOrder w
  put_order room start items h = does_order _ refl (put_own room v w start items h)

  pub shut_order : (was_open : Bool) → ShutNow v was_open w → TakesInOrder v → TakesInOrder w
  shut_order was_open h = does_order _ refl (does v w _ _ h.3)

  -- a new taking is at later positions than the earlier takings
  pub took_order : (room : ℕ) (items : List ℕ) → 0 < length items → TookItems room v items w → TakesInOrder v → TakesInOrder w
  took_order room items some_item (tail, m, o, scan, are, first, made) up =
      let q : Positions = o.object in
      let b : Batch = taking q (length items) in
      let (reached, real, leaves) = passes_split of_queues v.seen w.seen (load tail_word tail m ∷ scanned room tail scan) (change tail_word tail o (with_take q (length items))) [] (passes_since of_queues v w _ x y made.adds) in
      let g = reaches_grow v.seen o reached in
      let f = g.first in let further = g.further in
      let long : length b.places ≡ length items = sym (length-map b.places item_of) ∙ ap length first in
      let past : Behind v.own.takes (tail_of q) = λ k e at. let h = up.1 k e at in omega arith in
      let takes : w.own.takes ≡ v.own.takes ++ b ∷ [] = (λ i. (made.did i).takes) in
      let now : tail_of w.seen.object ≡ q.first + (q.taken + length items) = (λ i. tail_of (sym leaves i).object) in (
        subst InOrder (sym takes) (order_push v.own.takes b up.0 past (omega arith)),
        subst (λ (z : List Batch). Behind z (tail_of w.seen.object)) (sym takes) (λ k e at. ⊎_elim
            (λ old. let h = past k e old in omega arith)
            (λ n. let same : b.start + length b.places ≡ e.start + length e.places = ap (λ (z : Batch). z.start + length z.places) n.1 in omega arith)
            (at_push v.own.takes b e k at)),
      )

-- the order is a matter of numbers alone
order_reported : (w : View) → ∥ TakesInOrder w ∥₁ → TakesInOrder w
order_reported w t = (
  (λ m n e f at at' low. ∥∥₁_elim t le_prop (λ (h : TakesInOrder w). h.0.0 m n e f at at' low), λ m e at. ∥∥₁_elim t le_prop (λ (h : TakesInOrder w). h.0.1 m e at)),
  (λ m e at. ∥∥₁_elim t le_prop (λ (h : TakesInOrder w). h.1 m e at)),
)

-- what the lists of two ends make of the order
pub order_of : (v w : View) → ∥ IsValidView of_queues v ∥₁ → ∥ IsValidView of_queues w ∥₁ → (IsValidView of_queues v → IsValidView of_queues w → TakesInOrder w) → TakesInOrder w
order_of v w x y f = order_reported w (∥∥₁_elim x squash₁ (λ (a : IsValidView of_queues v). ∥∥₁_map y (f a)))

-- JOINS

-- after a join, the queue is no earlier than either end had seen it
pub join_grows : (v u w : View) → ∥ IsValidView of_queues v ∥₁ → ∥ IsValidView of_queues w ∥₁ → JoinedBy v u w → ∥ Grows v.seen.object w.seen.object ∥₁
join_grows v u w x y t = ∥∥₁_elim x squash₁ (λ (a : IsValidView of_queues v). ∥∥₁_map y (λ b. reaches_grow v.seen w.seen (reaches_one of_queues did_both ends_word v u w a b t)))

pub join_grows_other : (v u w : View) → ∥ IsValidView of_queues u ∥₁ → ∥ IsValidView of_queues w ∥₁ → JoinedBy v u w → ∥ Grows u.seen.object w.seen.object ∥₁
join_grows_other v u w x y t = ∥∥₁_elim x squash₁ (λ (a : IsValidView of_queues u). ∥∥₁_map y (λ b. reaches_grow u.seen w.seen (reaches_other of_queues did_both ends_word v u w a b t)))
