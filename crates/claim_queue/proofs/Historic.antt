-- Which event the change of a real step is, of the queue with each of its histories.
use Rattle.claim_queue.proofs.Common.{◌≡◌, ℕ, ◌+◌, ◌-◌, ◌<◌, false, List, [], ◌∷◌, ◌++◌, length, length-append, length-map, map, set, ap, subst, sym, refl, place_at, arith, Ok, some, get_elem?, Batch, Cell, Positions, AbsState, Step, change, IsValidStep, with_stage, Lawful, fresh, stage_at, head_of, tail_of, with_claim, with_take, with_shut, Owned, IsPlace, head_word, tail_word, mark, of_queues, run}
use Rattle.event_theory.specs.Marks.{shut}
use Rattle.event_theory.specs.Queues.{claim, raise, take_first}
use Rattle.table_theory.specs.QueueOf.{IsEventOf, IsHistory, no_event}
use Rattle.table_theory.proofs.Histories.{Located, claim_of, located, raise_of, store_of, take_of, shut_of}
use Rattle.claim_queue.specs.Changes.{with_stage_at}
use Rattle.claim_queue.proofs.Growing.{real_grows, real_lawful}
use Rattle.claim_queue.proofs.Lawful.{head_says, tail_says, claim_open}

pub claim_has : (head call number : ℕ) (items : List ℕ) (m : AbsState Positions) (runs : List (Owned Batch)) → IsValidStep of_queues (change head_word head m (with_claim m.object items)) → 0 < length items → IsHistory m.object runs
    → (m.object.shut ≡ false) × (head ≡ head_of m.object) × IsEventOf m.object runs (claim m.object.room call items) (with_claim m.object items) (runs ++ (call, number, run head items) ∷ [])
claim_has head call number items m runs r any h = let q : Positions = m.object in let e : Step Positions = change head_word head m (with_claim q items) in let a = length-append q.places (map fresh items) in let n = length-map items fresh in
    let is_open = claim_open q items (real_grows e r) any in let fits = (real_lawful e r).within in let here : head ≡ head_of q = (let h = (head_says e refl r).0 in let z : mark q.shut ≡ 0 = ap mark is_open in omega arith) in
    (is_open, here, subst (λ (z : ℕ). IsEventOf q runs (claim q.room call items) (with_claim q items) (runs ++ (call, number, run z items) ∷ [])) (sym here) (claim_of q runs h r.lawful call number items any (omega arith) is_open))

-- a place that was claimed
module _ (m : AbsState Positions) (runs : List (Owned Batch)) (h : IsHistory m.object runs) (lawful : Lawful m.object) (position : ℕ) (place : Cell) (p : IsPlace m.object position place) (low : place.stage < 2) where
  abbrev at : ℕ
  at = position - m.object.first

  its : Located runs m.object.first at (place_at m.object at)
  its = located m.object runs h lawful at (let f = p.from in let b = p.below in omega arith)

  is_low : stage_at m.object at < 2
  is_low = subst (λ (z : Cell). z.stage < 2) (sym p.is) low

  pub store_has : (k index : ℕ) × (o : Owned Batch) × (get_elem? runs k ≡ some o) × (o.2.start + index ≡ position) × IsEventOf m.object runs no_event (with_stage_at m.object position 1) (set runs k (o.0, o.1, with_stage o.2 index 1))
  store_has = let is = its.is in let f = p.from in (its.number, its.index, its.run, its.has, omega arith, store_of m.object runs h lawful at its is_low)

  pub raise_has : (k index : ℕ) × (o : Owned Batch) × (get_elem? runs k ≡ some o) × (o.2.start + index ≡ position) × IsEventOf m.object runs (raise o.0 k index) (with_stage_at m.object position 2) (set runs k (o.0, o.1, with_stage o.2 index 2))
  raise_has = let is = its.is in let f = p.from in (its.number, its.index, its.run, its.has, omega arith, raise_of m.object runs h lawful at its is_low)

pub take_has : (tail count : ℕ) (m : AbsState Positions) (runs : List (Owned Batch)) → IsValidStep of_queues (change tail_word tail m (with_take m.object count)) → 0 < count → IsHistory m.object runs
    → (tail ≡ tail_of m.object) × IsEventOf m.object runs (take_first m.object.room count) (with_take m.object count) runs
take_has tail count m runs r any h = let q : Positions = m.object in let e : Step Positions = change tail_word tail m (with_take q count) in let new = real_lawful e r in
    (tail_says e refl r, take_of q runs h r.lawful count any new.taken_within (λ i b. new.ready (q.taken + i) (omega arith)))

pub shut_has : (head : ℕ) (m : AbsState Positions) (runs : List (Owned Batch)) → IsValidStep of_queues (change head_word head m (with_shut m.object)) → IsHistory m.object runs → IsEventOf m.object runs (λ c. Ok (shut c)) (with_shut m.object) runs
shut_has head m runs r h = shut_of m.object runs h r.lawful
