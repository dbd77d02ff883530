-- Each step on a queue's positions is one event of the queue with each of their histories.
use Rattle.table_theory.proofs.Common.{◌≡◌, ℕ, zero, suc, ◌+◌, ◌-◌, ◌<◌, ◌≤◌, false, List, [], ◌∷◌, ◌++◌, ◌∙◌, map, length, get_or, set, refl, sym, ap, subst, arith, ⊎_elim, length-map, length-set, length-append, some, some-injective, some-ne-none, dite, dec_lt, at_set, get_elem?, get_or-set_other, set_again, set_here, Cell, Batch, Positions, blank, item_at, place_at, stage_at, head_of, Lawful, fresh, with_claim, with_write, with_take, with_shut, Owned, Adjacent, all_places, with_stage, queue_of, IsHistory, get_or_append_left}
use Rattle.std.proofs.Common.{Ok, Result}
use Rattle.std.proofs.lemmas.List.{get_or-append-add, set-set}
use Rattle.event_theory.specs.declared.refusal.Refusal.{Refusal}
use Rattle.event_theory.specs.Queues.{Queue, claim, raise, take_first}
use Rattle.event_theory.specs.Results.{◌>>=◌}
use Rattle.event_theory.specs.Marks.{shut}
use Rattle.table_theory.specs.QueueOf.{IsEventOf, no_event}
use Rattle.table_theory.specs.Raises.{AreAt, IsAt, Spot, raise_all, raise_each, raised_run, with_raises}
use Rattle.table_theory.proofs.Logs.{flat_push, adjacent_push, lies}
use Rattle.table_theory.proofs.Owned.{at_below, at_push}
use Rattle.table_theory.proofs.Positioned.{write_else}
use Rattle.table_theory.proofs.QueueOf.{Log, left_long, is_lawful_queue}
use Rattle.table_theory.proofs.QueueEvents.{claim_goes, claimed_is, raise_goes, raised_is, stored_is, take_goes, first_raised}

-- positions that have places have a history: here that of one run
pub some_history : (q : Positions) → (runs : Log) × IsHistory q runs
some_history q = by q.places refl
  where
    by : (places : List Cell) → q.places ≡ places → (runs : Log) × IsHistory q runs
    by [] is = ([], record { solid = λ k o at. absurd (some-ne-none o (sym at)); places = sym is; adjacent = tt })
    by (c ∷ cs) is = let e : Batch = record { start = q.first; places = c ∷ cs } in (
      (0, 0, e) ∷ [],
      record {
        solid = λ k o at. only k o at;
        places = append_none (c ∷ cs) ∙ sym is;
        adjacent = (refl, tt);
      },
    )
      where
        only : (k : ℕ) (o : Owned Batch) → get_elem? ((0, 0, record { start = q.first; places = c ∷ cs }) ∷ []) k ≡ some o → 0 < length o.2.places
        only zero o at = subst (λ (z : Owned Batch). 0 < length z.2.places) (some-injective _ o at) (omega arith)
        only (suc k) o at = absurd (some-ne-none o (sym at))

        append_none : (l : List Cell) → l ++ [] ≡ l
        append_none [] = refl
        append_none (x ∷ xs) = ap (λ (z : List Cell). x ∷ z) (append_none xs)

-- where a position lies in a history
pub record Located (runs : Log) (first i : ℕ) (place : Cell) : Type 0 where
  pub number : ℕ
  pub run : Owned Batch
  pub has : get_elem? runs number ≡ some run
  pub index : ℕ
  pub below : index < length run.2.places
  pub is : run.2.start + index ≡ first + i
  pub same : get_or run.2.places index blank ≡ place

pub locate : (first : ℕ) (runs : Log) (i : ℕ) → Adjacent first runs → i < length (all_places runs) → Located runs first i (get_or (all_places runs) i blank)
locate first [] i c below = absurd (omega arith)
locate first (o ∷ os) i c below = let n : ℕ = length o.2.places in let start = c.0 in dite (dec_lt i n)
    (λ low. record { number = 0; run = o; has = refl; index = i; below = low; is = omega arith; same = sym (get_or_append_left o.2.places (all_places os) blank i low) })
    (λ high. let j : ℕ = i - n in let e : n + j ≡ i = omega arith in let l = locate (first + n) os j c.1 (omega (arith, length-append o.2.places (all_places os))) in let is = l.is in record {
      number = suc l.number;
      run = l.run;
      has = l.has;
      index = l.index;
      below = l.below;
      is = omega arith;
      same = l.same ∙ (sym (get_or-append-add o.2.places (all_places os) j blank) ∙ ap (λ (z : ℕ). get_or (o.2.places ++ all_places os) z blank) e);
    })

-- a place is written, in the queue and in the run in which it is
write_kept : (q : Positions) (runs : Log) (h : IsHistory q runs) (p : ℕ) (l : Located runs q.first p (place_at q p)) (n : ℕ) → IsHistory (with_write q p n) (set runs l.number (l.run.0, l.run.1, with_stage l.run.2 l.index n))
write_kept q runs h p l n = let s = lies q.first runs l.number l.run h.adjacent l.has in let cell : Cell = record { item = (get_or l.run.2.places l.index blank).item; stage = n } in let st = s.start in let is = l.is in
    let there : s.at + l.index ≡ p = omega arith in let long = length-set l.run.2.places l.index cell in record {
      solid = λ k x at. ⊎_elim (λ t. subst (λ (z : Owned Batch). 0 < length z.2.places) t.1 (let b = l.below in omega arith)) (λ t. h.solid k x t.1) (at_set runs l.number k (l.run.0, l.run.1, with_stage l.run.2 l.index n) x at);
      places = s.change l.run.0 l.run.1 l.index cell l.below ∙ ((λ k. set (h.places k) (there k) cell) ∙ ap (λ (z : Cell). set q.places p (record { item = z.item; stage = n })) l.same);
      adjacent = s.adjacent l.run.0 l.run.1 l.index cell;
    }

-- a place of a run of the history
abbrev pub of_run : (q : Positions) (runs : Log) (h : IsHistory q runs) (k i p : ℕ) (o : Owned Batch) → get_elem? runs k ≡ some o → i < length o.2.places → o.2.start + i ≡ q.first + p → Located runs q.first p (place_at q p)
of_run q runs h k i p o has below is = let s = lies q.first runs k o h.adjacent has in let st = s.start in let there : s.at + i ≡ p = omega arith in record {
  number = k;
  run = o;
  has = has;
  index = i;
  below = below;
  is = is;
  same = sym (s.same i below) ∙ (λ j. get_or (h.places j) (there j) blank);
}

-- places of a run that aren't raised are raised at one step, from one of them on
record Raised (q : Positions) (runs : Log) (k i n p : ℕ) (o : Owned Batch) : Type 0 where
  made : raise_all o.0 k i n (queue_of q runs) ≡ Ok (queue_of (with_raises q p n) (set runs k (o.0, o.1, raised_run o.2 i n)))
  history : IsHistory (with_raises q p n) (set runs k (o.0, o.1, raised_run o.2 i n))

raises : (n : ℕ) (q : Positions) (runs : Log) (h : IsHistory q runs) (k i p : ℕ) (o : Owned Batch) → get_elem? runs k ≡ some o → i + n ≤ length o.2.places → o.2.start + i ≡ q.first + p → ((x : ℕ) → i ≤ x → x < length o.2.places → (get_or o.2.places x blank).stage < 2) → Raised q runs k i n p o
raises zero q runs h k i p o has long is low = let same = set_again runs k o has in record { made = ap (λ (z : Log). Ok (queue_of q z)) (sym same); history = subst (IsHistory q) (sym same) h }
raises (suc n) q runs h k i p o has long is low = let l = of_run q runs h k i p o has (omega arith) is in let u : Owned Batch = (o.0, o.1, with_stage o.2 i 2) in let cell : Cell = record { item = (get_or o.2.places i blank).item; stage = 2 } in
    let length_is = length-set o.2.places i cell in let below = low i (omega arith) (omega arith) in
    let one = raise_goes runs k o.0 o.1 i o.2 has (omega arith) q below ∙ ap Ok (raised_is runs k o.0 o.1 i o.2 has (omega arith) q p) in
    let rest = raises n (with_write q p 2) (set runs k u) (write_kept q runs h p l 2) k (suc i) (suc p) u (set_here runs k u (at_below runs k o has)) (omega arith) (omega arith)
    (λ x from to. subst (λ (z : Cell). z.stage < 2) (sym (get_or-set_other o.2.places i x cell blank (λ z. omega arith))) (low x (omega arith) (omega arith))) in
    let again = set-set runs k u (o.0, o.1, raised_run u.2 (suc i) n) in record {
      made = ap (λ (r : Result Queue Refusal). r >>= raise_all o.0 k (suc i) n) one ∙ (rest.made ∙ ap (λ (z : Log). Ok (queue_of (with_raises q p (suc n)) z)) again);
      history = subst (IsHistory (with_raises q p (suc n))) again rest.history;
    }

-- the run in which a place is
locate_in : (q : Positions) (runs : Log) (h : IsHistory q runs) (p : ℕ) → p < length q.places → Located runs q.first p (place_at q p)
locate_in q runs h p below = subst (λ (z : List Cell). Located runs q.first p (get_or z p blank)) h.places (locate q.first runs p h.adjacent (subst (λ (z : List Cell). p < length z) (sym h.places) below))

-- a place is where it was before another was written
at_back : (runs : Log) (k i n position : ℕ) (o : Owned Batch) (s : Spot) → get_elem? runs k ≡ some o → IsAt (set runs k (o.0, o.1, with_stage o.2 i n)) position s → IsAt runs position s
at_back runs k i n position o s there (run, has, call, below, is) = let u : Owned Batch = (o.0, o.1, with_stage o.2 i n) in ⊎_elim
    (λ t. let long : length run.2.places ≡ length o.2.places = ap (λ (z : Owned Batch). length z.2.places) (sym t.1) ∙ length-set o.2.places i (record { item = (get_or o.2.places i blank).item; stage = n }) in let start : o.2.start ≡ run.2.start = ap (λ (z : Owned Batch). z.2.start) t.1 in
    (o, subst (λ (z : ℕ). get_elem? runs z ≡ some o) (sym t.0) there, ap (λ (z : Owned Batch). z.0) t.1 ∙ call, omega arith, omega arith))
    (λ t. (run, t.1, call, below, is))
    (at_set runs k s.run u run has)

all_back : (runs : Log) (k i n from to : ℕ) (o : Owned Batch) (spots : List Spot) → get_elem? runs k ≡ some o → AreAt (set runs k (o.0, o.1, with_stage o.2 i n)) from spots to → AreAt runs from spots to
all_back runs k i n from to o [] there is = is
all_back runs k i n from to o (s ∷ ss) there is = (at_back runs k i n from o s there is.0, all_back runs k i n (from + 1) to o ss there is.1)

-- places that aren't raised are raised at one step, wherever they are
record RaisedEach (q : Positions) (runs : Log) (p n : ℕ) : Type 0 where
  spots : List Spot
  at : AreAt runs (q.first + p) spots (q.first + p + n)
  left : Log
  made : raise_each spots (queue_of q runs) ≡ Ok (queue_of (with_raises q p n) left)
  history : IsHistory (with_raises q p n) left

raises_each : (n : ℕ) (q : Positions) (runs : Log) (h : IsHistory q runs) (p : ℕ) → p + n ≤ length q.places → ((x : ℕ) → p ≤ x → x < p + n → stage_at q x < 2) → RaisedEach q runs p n
raises_each zero q runs h p long low = record { spots = []; at = omega arith; left = runs; made = refl; history = h }
raises_each (suc n) q runs h p long low = let l = locate_in q runs h p (omega arith) in let o = l.run in let below = low p (omega arith) (omega arith) in
    let its : (get_or o.2.places l.index blank).stage < 2 = subst (λ (z : Cell). z.stage < 2) (sym l.same) below in
    let lq = length-set q.places p (record { item = item_at q p; stage = 2 }) in
    let rest = raises_each n (with_write q p 2) (set runs l.number (o.0, o.1, with_stage o.2 l.index 2)) (write_kept q runs h p l 2) (suc p) (omega arith)
    (λ x from to. subst (λ (z : Cell). z.stage < 2) (sym (write_else q p x 2 (λ e. omega arith))) (low x (omega arith) (omega arith))) in
    let one = raise_goes runs l.number o.0 o.1 l.index o.2 l.has l.below q its ∙ ap Ok (raised_is runs l.number o.0 o.1 l.index o.2 l.has l.below q p) in
    let next : q.first + suc p ≡ q.first + p + 1 = omega arith in let end : q.first + suc p + n ≡ q.first + p + suc n = omega arith in record {
      spots = record { call = o.0; run = l.number; index = l.index } ∷ rest.spots;
      at = ((o, l.has, refl, l.below, l.is), subst (λ (z : ℕ). AreAt runs z rest.spots (q.first + p + suc n)) next (subst (AreAt runs (q.first + suc p) rest.spots) end (all_back runs l.number l.index 2 (q.first + suc p) (q.first + suc p + n) o rest.spots l.has rest.at)));
      left = rest.left;
      made = ap (λ (r : Result Queue Refusal). r >>= raise_each rest.spots) one ∙ rest.made;
      history = rest.history;
    }

module _ (q : Positions) (runs : Log) (h : IsHistory q runs) (lawful : Lawful q) where
  -- so many places from this one on, of which none is raised, are raised at one step
  pub raises_of : (p n : ℕ) → p + n ≤ length q.places → ((x : ℕ) → p ≤ x → x < p + n → stage_at q x < 2)
      → (spots : List Spot) × AreAt runs (q.first + p) spots (q.first + p + n) × (left : Log) × IsEventOf q runs (raise_each spots) (with_raises q p n) left
  raises_of p n long low = let r = raises_each n q runs h p long low in (r.spots, r.at, r.left, record { lawful = is_lawful_queue q runs lawful h; made = r.made; history = r.history })

  -- a run of which nothing is raised is raised whole at one step
  pub publish_of : (k p : ℕ) (o : Owned Batch) → get_elem? runs k ≡ some o → o.2.start ≡ q.first + p → ((x : ℕ) → x < length o.2.places → (get_or o.2.places x blank).stage < 2)
      → IsEventOf q runs (raise_all o.0 k 0 (length o.2.places)) (with_raises q p (length o.2.places)) (set runs k (o.0, o.1, raised_run o.2 0 (length o.2.places)))
  publish_of k p o has start low = let r = raises (length o.2.places) q runs h k 0 p o has (omega arith) (omega arith) (λ x from below. low x below) in record { lawful = is_lawful_queue q runs lawful h; made = r.made; history = r.history }

  pub claim_of : (call number : ℕ) (items : List ℕ) → 0 < length items → length q.places + length items ≤ q.taken + q.room → q.shut ≡ false
      → IsEventOf q runs (claim q.room call items) (with_claim q items) (runs ++ (call, number, record { start = head_of q; places = map fresh items }) ∷ [])
  claim_of call number items some_items room is_open = let o : Owned Batch = (call, number, record { start = head_of q; places = map fresh items }) in let n = left_long q runs h.places in let following = lawful.taken_within in let long = length-map items fresh in record {
    lawful = is_lawful_queue q runs lawful h;
    made = claim_goes q.room call items (queue_of q runs) some_items (omega arith) is_open (omega arith) ∙ ap Ok (claimed_is q runs call number items);
    history = record {
      solid = λ k x at. ⊎_elim (λ old. h.solid k x old) (λ new. subst (λ (z : Owned Batch). 0 < length z.2.places) new.1 (omega arith)) (at_push runs o x k at);
      places = flat_push runs o ∙ ap (λ (z : List Cell). z ++ map fresh items) h.places;
      adjacent = adjacent_push q.first runs o h.adjacent (ap (λ (z : List Cell). q.first + length z) (sym h.places));
    };
  }

  -- the run in which a place is that was claimed
  pub located : (p : ℕ) → p < length q.places → Located runs q.first p (place_at q p)
  located p below = locate_in q runs h p below

  module _ (p : ℕ) (l : Located runs q.first p (place_at q p)) (low : stage_at q p < 2) where
    its : (get_or l.run.2.places l.index blank).stage < 2
    its = subst (λ (z : Cell). z.stage < 2) (sym l.same) low

    -- the run, with so many steps of writing done at the place
    abbrev pub run_with : ℕ → Owned Batch
    run_with n = (l.run.0, l.run.1, with_stage l.run.2 l.index n)

    kept : (n : ℕ) → IsHistory (with_write q p n) (set runs l.number (run_with n))
    kept n = write_kept q runs h p l n

    pub raise_of : IsEventOf q runs (raise l.run.0 l.number l.index) (with_write q p 2) (set runs l.number (run_with 2))
    raise_of = record {
      lawful = is_lawful_queue q runs lawful h;
      made = raise_goes runs l.number l.run.0 l.run.1 l.index l.run.2 l.has l.below q its ∙ ap Ok (raised_is runs l.number l.run.0 l.run.1 l.index l.run.2 l.has l.below q p);
      history = kept 2;
    }

    pub store_of : IsEventOf q runs no_event (with_write q p 1) (set runs l.number (run_with 1))
    store_of = record {
      lawful = is_lawful_queue q runs lawful h;
      made = ap Ok (stored_is runs l.number l.run.0 l.run.1 l.index l.run.2 l.has l.below q p its);
      history = kept 1;
    }

  pub take_of : (n : ℕ) → 0 < n → q.taken + n ≤ length q.places → ((i : ℕ) → i < n → 2 ≤ stage_at q (q.taken + i)) → IsEventOf q runs (take_first q.room n) (with_take q n) runs
  take_of n some_items long up_to = let within = lawful.within in record {
    lawful = is_lawful_queue q runs lawful h;
    made = take_goes q.room n (queue_of q runs) some_items (omega arith) (first_raised q runs n h.places long up_to);
    history = record { solid = h.solid; places = h.places; adjacent = h.adjacent };
  }

  pub none_of : IsEventOf q runs no_event q runs
  none_of = record { lawful = is_lawful_queue q runs lawful h; made = refl; history = h }

  pub shut_of : IsEventOf q runs (λ c. Ok (shut c)) (with_shut q) runs
  shut_of = record { lawful = is_lawful_queue q runs lawful h; made = refl; history = record { solid = h.solid; places = h.places; adjacent = h.adjacent } }
