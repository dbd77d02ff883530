-- The meaning of the number that a real step found, and the event of its change.
use Rattle.claim_queue.proofs.Common.{◌≡◌, ◌≢◌, ℕ, ◌+◌, ◌-◌, ◌*◌, ◌%◌, ◌<◌, ◌≤◌, Bool, true, false, List, [], ◌∷◌, ◌++◌, map, length, length-append, get_or, set, refl, sym, ap, ◌∙◌, subst, arith, Ok, length-map, some, get_elem?, Batch, Cell, Positions, QueueView, AbsState, Step, load, change, IsValidStep, ViewsShow, with_stage, Lawful, Grows, blank, fresh, place_at, item_at, stage_at, head_of, tail_of, with_claim, with_take, with_shut, spot, own, run_stands, IsPlace, head_word, tail_word, data_word, flag_word, mark, data_in, flag_in, of_queues, run, taking}
use Rattle.event_theory.specs.Marks.{shut}
use Rattle.event_theory.specs.Queues.{claim, raise, take_first}
use Rattle.table_theory.specs.QueueOf.{IsEvent, no_event}
use Rattle.table_theory.proofs.QueueEvents.{claim_event, store_event, raised_event, take_event, shut_event}
use Rattle.table_theory.proofs.Windows.{found_raised, found_not_raised}
use Rattle.claim_queue.specs.Changes.{with_stage_at}
use Rattle.table_theory.proofs.Saying.{at_word}
use Rattle.claim_queue.proofs.Growing.{real_grows, real_lawful}

pub open_at : (n : ℕ) (b : Bool) → n + mark b < 4294967296 → b ≡ false
open_at n true h = absurd (omega arith)
open_at n false h = refl

-- NUMBERS

pub head_says : (e : Step Positions) → e.word ≡ head_word → IsValidStep of_queues e → (e.found ≡ head_of e.then.object + mark e.then.object.shut) × (head_of e.then.object < 4294967296)
head_says e is r = (at_word of_queues e head_word is r ∙ r.shows.head, r.shows.bounded)

-- a head that was found without the mark is that of an open queue
pub head_open : (head : ℕ) (m : AbsState Positions) → IsValidStep of_queues (load head_word head m) → head < 4294967296 → (m.object.shut ≡ false) × (head ≡ head_of m.object)
head_open head m r bounded = let h = (head_says (load head_word head m) refl r).0 in let is_open = open_at (head_of m.object) m.object.shut (omega arith) in let z : mark m.object.shut ≡ 0 = ap mark is_open in (is_open, omega arith)

pub tail_says : (e : Step Positions) → e.word ≡ tail_word → IsValidStep of_queues e → e.found ≡ tail_of e.then.object
tail_says e is r = at_word of_queues e tail_word is r ∙ r.shows.tail

spot_is : (q : Positions) (position : ℕ) → q.first ≤ position → spot q (position - q.first) ≡ position % q.room
spot_is q position from = let e : q.first + (position - q.first) ≡ position = omega arith in ap (λ (z : ℕ). z % q.room) e

flag_found : (e : Step Positions) (position : ℕ) → e.word ≡ flag_word e.then.object.room position → (r : IsValidStep of_queues e) → e.then.object.first ≤ position → e.found ≡ flag_in r.words (spot e.then.object (position - e.then.object.first))
flag_found e position is r from = let q : Positions = e.then.object in let s = spot_is q position from in at_word of_queues e (flag_word q.room position) is r ∙ ap (λ (z : ℕ). get_or r.words z 0) (let g : flag_word q.room position ≡ 2 * spot q (position - q.first) + 17 = omega arith in g)

pub raised_says : (e : Step Positions) (position : ℕ) → e.word ≡ flag_word e.then.object.room position → IsValidStep of_queues e → e.then.object.first ≤ position → position < tail_of e.then.object + e.then.object.room → e.found ≡ position + 1 → 2 ≤ stage_at e.then.object (position - e.then.object.first)
raised_says e position is r from to found = let q : Positions = e.then.object in
    found_raised q (flag_in r.words) (data_in r.words) (position - q.first) r.shows.window r.lawful (omega arith) (sym (flag_found e position is r from) ∙ (found ∙ (let g : position + 1 ≡ q.first + (position - q.first) + 1 = omega arith in g)))

pub low_says : (e : Step Positions) (position : ℕ) → e.word ≡ flag_word e.then.object.room position → IsValidStep of_queues e → tail_of e.then.object ≤ position → position < tail_of e.then.object + e.then.object.room → e.found ≢ position + 1 → stage_at e.then.object (position - e.then.object.first) < 2
low_says e position is r from to ne = let q : Positions = e.then.object in
    found_not_raised q (flag_in r.words) (data_in r.words) (position - q.first) r.shows.window (omega arith) (omega arith)
    (λ h. ne (flag_found e position is r (omega arith) ∙ (h ∙ (let g : q.first + (position - q.first) + 1 ≡ position + 1 = omega arith in g))))

pub item_says : (e : Step Positions) (position : ℕ) → e.word ≡ data_word e.then.object.room position → IsValidStep of_queues e → tail_of e.then.object ≤ position → position < tail_of e.then.object + e.then.object.room → 1 ≤ stage_at e.then.object (position - e.then.object.first)
    → e.found ≡ item_at e.then.object (position - e.then.object.first)
item_says e position is r from to up = let q : Positions = e.then.object in let s = spot_is q position (omega arith) in
    at_word of_queues e (data_word q.room position) is r ∙ (ap (λ (z : ℕ). get_or r.words z 0) (let g : data_word q.room position ≡ 2 * spot q (position - q.first) + 16 = omega arith in g) ∙ (r.shows.window.each (position - q.first) (omega arith) (omega arith)).holds up)

-- CHANGES

-- if items were claimed, the queue was open
pub claim_open : (q : Positions) (items : List ℕ) → Grows q (with_claim q items) → 0 < length items → q.shut ≡ false
claim_open q items g any = by q.shut g.still
  where
    by : (b : Bool) → (b ≡ true → length (with_claim q items).places ≡ length q.places) → b ≡ false
    by true same = let s = same refl in let a = length-append q.places (map fresh items) in let n = length-map items fresh in absurd (omega arith)
    by false same = refl

pub claim_is : (head : ℕ) (items : List ℕ) (m : AbsState Positions) (views : List QueueView) (seat : ℕ) (v w : QueueView) → IsValidStep of_queues (change head_word head m (with_claim m.object items)) → 0 < length items
    → ViewsShow m.object views → get_elem? views seat ≡ some v → w.runs ≡ v.runs ++ run head items ∷ [] → w.takes ≡ v.takes → Grows w.queue (with_claim m.object items)
    → (m.object.shut ≡ false) × (head ≡ head_of m.object) × IsEvent m.object (with_claim m.object items) seat v w (claim m.object.room seat items)
claim_is head items m views seat v w r any l at runs takes later = let q : Positions = m.object in let e : Step Positions = change head_word head m (with_claim q items) in let a = length-append q.places (map fresh items) in let n = length-map items fresh in
    let is_open = claim_open q items (real_grows e r) any in let fits = (real_lawful e r).within in let here : head ≡ head_of q = (let h = (head_says e refl r).0 in let z : mark q.shut ≡ 0 = ap mark is_open in omega arith) in
    (is_open, here, claim_event q views seat v w items l at r.lawful any (omega arith) is_open (runs ∙ ap (λ (z : ℕ). v.runs ++ run z items ∷ []) here) takes later)

pub take_is : (tail count : ℕ) (m : AbsState Positions) (views : List QueueView) (seat : ℕ) (v w : QueueView) → IsValidStep of_queues (change tail_word tail m (with_take m.object count)) → 0 < count → ViewsShow m.object views → get_elem? views seat ≡ some v
    → w.takes ≡ v.takes ++ taking m.object count ∷ [] → w.runs ≡ v.runs → Grows w.queue (with_take m.object count) → (tail ≡ tail_of m.object) × IsEvent m.object (with_take m.object count) seat v w (take_first m.object.room count)
take_is tail count m views seat v w r any l at takes runs later = let q : Positions = m.object in let e : Step Positions = change tail_word tail m (with_take q count) in let new = real_lawful e r in
    (tail_says e refl r, take_event q views seat count v w l at r.lawful any new.taken_within (λ i h. new.ready (q.taken + i) (omega arith)) takes runs later)

pub shut_is : (head : ℕ) (m : AbsState Positions) (views : List QueueView) (seat : ℕ) (v w : QueueView) → IsValidStep of_queues (change head_word head m (with_shut m.object)) → ViewsShow m.object views → get_elem? views seat ≡ some v → w.runs ≡ v.runs → w.takes ≡ v.takes → Grows w.queue (with_shut m.object)
    → IsEvent m.object (with_shut m.object) seat v w (λ c. Ok (shut c))
shut_is head m views seat v w r l at runs takes later = shut_event m.object views seat v w l at r.lawful runs takes later

-- a place that the end claimed, as its run lists it
module _ (m : AbsState Positions) (lawful : Lawful m.object) (position : ℕ) (place : Cell) (p : IsPlace m.object position place) (low : place.stage < 2) (views : List QueueView) (seat number index : ℕ) (v w : QueueView) (e : Batch) (l : ViewsShow m.object views) (at : get_elem? views seat ≡ some v) (has : get_elem? v.runs number ≡ some e)
    (below : index < length e.places) (is : e.start + index ≡ position) where
  here : e.start + index ≡ m.object.first + (position - m.object.first)
  here = let f = p.from in omega arith

  its : (get_or e.places index blank).stage < 2
  its = let s = run_stands m.object views seat number v e l.lists at has in let st = s.start in let f = p.from in let z : s.at + index ≡ position - m.object.first = omega arith in
      let same : get_or e.places index blank ≡ place = sym (s.same index below) ∙ (ap (place_at m.object) z ∙ p.is) in subst (λ (c : Cell). c.stage < 2) (sym same) low

  ahead : m.object.taken ≤ position - m.object.first
  ahead = let o = own m.object e index lawful (run_stands m.object views seat number v e l.lists at has) below its in let a = o.start in let b = o.from in let f = p.from in omega arith

  pub store_is : place.stage ≡ 0 → w.runs ≡ set v.runs number (with_stage e index 1) → w.takes ≡ v.takes → Grows w.queue (with_stage_at m.object position 1) → IsEvent m.object (with_stage_at m.object position 1) seat v w no_event
  store_is none runs takes later = let d = ap (λ (c : Cell). c.stage) p.is in store_event m.object views seat number index (position - m.object.first) v w e l at has below here lawful ahead its (omega arith) runs takes later

  pub raise_is : w.runs ≡ set v.runs number (with_stage e index 2) → w.takes ≡ v.takes → Grows w.queue (with_stage_at m.object position 2)
      → (k : ℕ) × (event : IsEvent m.object (with_stage_at m.object position 2) seat v w (raise seat k index)) × (get_elem? event.shown.lists.runs k ≡ some (seat, number, e))
  raise_is runs takes later = let d = ap (λ (c : Cell). c.stage) p.is in raised_event m.object views seat number index (position - m.object.first) v w e l at has below here lawful ahead its (omega arith) runs takes later
