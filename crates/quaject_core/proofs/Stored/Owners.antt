-- Whose run an item of a stored queue is in.
use Rattle.quaject_core.proofs.Common.{◌≡◌, ℕ, zero, suc, ◌+◌, ◌<◌, ◌≤◌, ◌-◌, Bool, true, false, ◌&&◌, not, List, [], ◌∷◌, ◌++◌, ◌∙◌, map, length, take, get_or, refl, sym, ap, ap₂, subst, arith, zero-add, add-zero, Option, Some, None, option_map, slice_get, leb, nat_le, leb-true, nat_tests, slice_get_within, slice_get-get_or, slice_get_past, list_all, IsPartitionedBy-leb, IsNonDecreasingBy, IsPartitionPoint, IsPartitionedBy, Run, flat, pairs_of, pairs_from, pairs, Queue, left, left_pairs, is_raised, first_are_raised, Chain, owes, forgotten, is_forgotten, call_of, owner, first_call, AreBegun, item_of, run_at, Laid, queue, Span, StoredQueue, length-pairs_of, length-pairs_from, slice_get-drop}
use Rattle.std.proofs.lemmas.List.{length-map, length-drop}
use Rattle.quaject_core.proofs.Stored.Layout.{span_within, stored_run, run_count}

slice_get-front : {X : Type 0} (xs ys : List X) (i : ℕ) → i < length xs → slice_get (xs ++ ys) i ≡ slice_get xs i
slice_get-front [] ys i within = absurd (omega arith)
slice_get-front (x ∷ xs) ys zero within = refl
slice_get-front (x ∷ xs) ys (suc i) within = slice_get-front xs ys i (omega arith)

slice_get-back : {X : Type 0} (xs ys : List X) (i k : ℕ) → k ≡ length xs + i → slice_get (xs ++ ys) k ≡ slice_get ys i
slice_get-back [] ys i k at = ap (slice_get ys) (omega arith)
slice_get-back (x ∷ xs) ys i zero at = absurd (omega arith)
slice_get-back (x ∷ xs) ys i (suc k) at = slice_get-back xs ys i k (omega arith)

pair_of_run : (run first : ℕ) (items : List ℕ) (k : ℕ) → k < length items → slice_get (pairs_of run first items) k ≡ Some (run, first + k)
pair_of_run run first [] k within = absurd (omega arith)
pair_of_run run first (item ∷ items) zero within = ap (λ n. Some (run, n)) (sym (add-zero first))
pair_of_run run first (item ∷ items) (suc k) within =
    let e : first + 1 + k ≡ first + suc k = omega arith in
    pair_of_run run (first + 1) items k (omega arith) ∙ ap (λ n. Some (run, n)) e

-- the pair of a position, from the run that it is in
pair_at : (xs : List ℕ) (start number : ℕ) (spans : List Span) (run : ℕ) (s : Span) (i k : ℕ) → Laid start spans (length xs) → slice_get spans run ≡ Some s → i < s.count → start + k ≡ s.start + i
    → slice_get (pairs_from number (map (run_at xs) spans)) k ≡ Some (number + run, i)
pair_at xs start number [] run s i k laid at below from = absurd (cc)
pair_at xs start number (a ∷ spans) zero s i k laid at below from =
    let e : a ≡ s = cc in
    let same : a.start ≡ s.start = ap (λ x. x.start) e in
    let count : a.count ≡ s.count = ap (λ x. x.count) e in
    let p : a.start ≡ start = laid.0 in
    let n : length (run_at xs a).items ≡ a.count = run_count xs start (a ∷ spans) 0 a laid refl in
    let many : length (pairs_of number 0 (run_at xs a).items) ≡ a.count = length-pairs_of number 0 (run_at xs a).items ∙ n in
    let here : k ≡ i = omega arith in
    let value : 0 + k ≡ i = omega arith in
    slice_get-front (pairs_of number 0 (run_at xs a).items) (pairs_from (number + 1) (map (run_at xs) spans)) k (omega arith)
    ∙ (pair_of_run number 0 (run_at xs a).items k (omega arith) ∙ ap₂ (λ (r : ℕ) (j : ℕ). Some (r, j)) (sym (add-zero number)) value)
pair_at xs start number (a ∷ spans) (suc run) s i k laid at below from =
    let p : a.start ≡ start = laid.0 in
    let n : length (run_at xs a).items ≡ a.count = run_count xs start (a ∷ spans) 0 a laid refl in
    let many : length (pairs_of number 0 (run_at xs a).items) ≡ a.count = length-pairs_of number 0 (run_at xs a).items ∙ n in
    let past = span_within (start + a.count) spans (length xs) laid.1 run s at in
    let far : start + a.count ≤ s.start = past.0 in
    let next : number + 1 + run ≡ number + suc run = omega arith in
    let back : k ≡ length (pairs_of number 0 (run_at xs a).items) + (k - a.count) = omega arith in
    slice_get-back (pairs_of number 0 (run_at xs a).items) (pairs_from (number + 1) (map (run_at xs) spans)) (k - a.count) k back
    ∙ (pair_at xs (start + a.count) (number + 1) spans run s i (k - a.count) laid.1 at below (omega arith) ∙ ap (λ (r : ℕ). Some (r, i)) next)

starts_from : (start : ℕ) (spans : List Span) (end : ℕ) → Laid start spans end → (i : ℕ) (d : Span) → i < length spans → start ≤ (get_or spans i d).start
starts_from start [] end laid i d within = absurd (omega arith)
starts_from start (s ∷ spans) end laid zero d within = omega (arith, laid.0)
starts_from start (s ∷ spans) end laid (suc i) d within = omega (arith, starts_from (start + s.count) spans end laid.1 i d (omega arith))

-- the runs are in the order of their starts
starts_rise : (start : ℕ) (spans : List Span) (end : ℕ) → Laid start spans end → IsNonDecreasingBy (λ s. s.start) spans
starts_rise start [] end laid i j d order within = absurd (omega arith)
starts_rise start (s ∷ spans) end laid zero zero d order within = omega arith
starts_rise start (s ∷ spans) end laid zero (suc j) d order within =
    omega (arith, laid.0, starts_from (start + s.count) spans end laid.1 j d (omega arith))
starts_rise start (s ∷ spans) end laid (suc i) zero d order within = absurd (omega arith)
starts_rise start (s ∷ spans) end laid (suc i) (suc j) d order within = starts_rise (start + s.count) spans end laid.1 i j d (omega arith) (omega arith)

-- which run a position is in
record RunAt (spans : List Span) (position point : ℕ) : Type 0 where
  run : ℕ
  span : Span
  next : point ≡ suc run
  at : slice_get spans run ≡ Some span
  from : span.start ≤ position
  to : position < span.start + span.count

later_run : (s : Span) (spans : List Span) (position point : ℕ) → RunAt spans position point → RunAt (s ∷ spans) position (suc point)
later_run s spans position point h = record {
  run = suc h.run;
  span = h.span;
  next = ap suc h.next;
  at = h.at;
  from = h.from;
  to = h.to;
}

found_run : (start : ℕ) (spans : List Span) (end position point : ℕ) → Laid start spans end → start ≤ position → position < end → point ≤ length spans
    → ((k : ℕ) (d : Span) → k < point → (get_or spans k d).start ≤ position)
    → ((k : ℕ) (d : Span) → point ≤ k → k < length spans → position < (get_or spans k d).start)
    → RunAt spans position point
found_run start [] end position point laid from to known before after = absurd (omega (arith, laid))
found_run start (s ∷ spans) end position zero laid from to known before after =
    let p : s.start ≡ start = laid.0 in
    let a : position < s.start = after 0 s (omega arith) (omega arith) in
    absurd (omega arith)
found_run start (s ∷ []) end position (suc point) laid from to known before after = record {
  run = 0;
  span = s;
  next = omega arith;
  at = refl;
  from = before 0 s (omega arith);
  to = omega (arith, laid.0, laid.1);
}
found_run start (s ∷ t ∷ spans) end position (suc zero) laid from to known before after = record {
  run = 0;
  span = s;
  next = refl;
  at = refl;
  from = before 0 s (omega arith);
  to = (let a : position < t.start = after 1 s (omega arith) (omega arith) in let p : s.start ≡ start = laid.0 in let q : t.start ≡ start + s.count = laid.1.0 in omega arith);
}
found_run start (s ∷ t ∷ spans) end position (suc (suc point)) laid from to known before after =
    let b : t.start ≤ position = before 1 s (omega arith) in
    let q : t.start ≡ start + s.count = laid.1.0 in
    later_run s (t ∷ spans) position (suc point)
    (found_run (start + s.count) (t ∷ spans) end position (suc point) laid.1 (omega arith) to (omega arith)
    (λ k d below. before (suc k) d (omega arith)) (λ k d past within. after (suc k) d (omega arith) (omega arith)))

-- as many pairs are left as items
pub length-left_pairs : (q : Queue) → length (left_pairs q) ≡ length (left q)
length-left_pairs q =
    omega (arith, length-drop q.taken (pairs q.history), length-drop q.taken (flat q.history), length-pairs_from 0 q.history)

pub no_owner : (q : Queue) → length (left q) ≡ 0 → first_call q ≡ None
no_owner q none = ap (owner q) (slice_get_past (left_pairs q) 0 (omega (arith, length-left_pairs q)))

owner_found : (stored : StoredQueue) (run i : ℕ) (s : Span) → slice_get stored.runs.items run ≡ Some s → i < s.count → stored.taken ≡ s.start + i
    → first_call (queue stored) ≡ Some s.call
owner_found stored run i s at below from =
    let xs : List ℕ = map item_of stored.places.items in
    let laid : Laid 0 stored.runs.items (length xs) = subst (Laid 0 stored.runs.items) (sym (length-map stored.places.items item_of)) stored.laid_out in
    let pair : slice_get (pairs (queue stored).history) stored.taken ≡ Some (0 + run, i) =
    pair_at xs 0 0 stored.runs.items run s i stored.taken laid at below (omega arith) in
    let first : slice_get (left_pairs (queue stored)) 0 ≡ Some (0 + run, i) =
    slice_get-drop (pairs (queue stored).history) stored.taken 0 ∙ (ap (slice_get (pairs (queue stored).history)) (add-zero stored.taken) ∙ pair) in
    let claimed : slice_get (queue stored).history (0 + run) ≡ Some (run_at xs s) =
    ap (slice_get (queue stored).history) (zero-add run) ∙ stored_run xs stored.runs.items run s at in
    ap (owner (queue stored)) first ∙ ap (option_map call_of) claimed

run_owner : (stored : StoredQueue) (point : ℕ) (d : Span) → RunAt stored.runs.items stored.taken point
    → (1 ≤ point) × (Some (get_or stored.runs.items (point - 1) d).call ≡ first_call (queue stored))
run_owner stored point d h =
    let next : point ≡ suc h.run = h.next in
    let from : h.span.start ≤ stored.taken = h.from in
    let to : stored.taken < h.span.start + h.span.count = h.to in
    let before : point - 1 ≡ h.run = omega arith in
    let read : Some (get_or stored.runs.items (point - 1) d) ≡ Some h.span =
    ap (λ k. Some (get_or stored.runs.items k d)) before ∙ (sym (slice_get-get_or stored.runs.items h.run d (slice_get_within stored.runs.items h.run h.span h.at)) ∙ h.at) in
    (omega arith, ap (option_map (λ (s : Span). s.call)) read ∙ sym (owner_found stored h.run (stored.taken - h.span.start) h.span h.at (omega arith) (omega arith)))

-- the run before the first that starts past the items that were taken
pub point_owner : (stored : StoredQueue) (point : ℕ) (d : Span) → stored.taken < length stored.places.items → point ≤ length stored.runs.items
    → AreBegun stored.taken stored.runs.items point
    → (1 ≤ point) × (Some (get_or stored.runs.items (point - 1) d).call ≡ first_call (queue stored))
point_owner stored point d some known parted =
    run_owner stored point d
    (found_run 0 stored.runs.items (length stored.places.items) stored.taken point stored.laid_out (omega arith) some known
    (λ k e below. parted.0 k e (omega arith) below) (λ k e past within. parted.1 k e past within))

pub parted_by : (spans : List Span) (position point : ℕ) → IsPartitionPoint (λ s. leb s.start position ≡ true) (λ s. leb s.start position ≡ false) spans point
    → AreBegun position spans point
parted_by spans position point parted = (
  (λ k e low below. leb-true (get_or spans k e).start position (parted.0 k e low below)),
  (λ k e past within. let late : leb (get_or spans k e).start position ≡ false = parted.1 k e past within in grind (arith, nat_tests)),
)

-- the runs of a stored queue can be searched by where they start
pub starts_parted : (stored : StoredQueue) → IsPartitionedBy (λ (s : Span). leb s.start stored.taken) stored.runs.items
starts_parted stored =
    IsPartitionedBy-leb (λ (s : Span). s.start) stored.runs.items stored.taken (starts_rise 0 stored.runs.items (length stored.places.items) stored.laid_out)

and_true : (b : Bool) → (b && true) ≡ b
and_true true = refl
and_true false = refl

first_of : (q : Queue) (ps : List (ℕ × ℕ)) (pair : ℕ × ℕ) → length ps ≡ length (left q) → slice_get ps 0 ≡ Some pair
    → (nat_le 1 (length (left q)) && list_all (is_raised q) (take 1 ps)) ≡ is_raised q pair
first_of q [] pair long at = absurd (cc)
first_of q (p ∷ ps) pair long at =
    let e : p ≡ pair = cc in
    let some : leb 1 (length (left q)) ≡ true = grind (arith, nat_tests) in
    ap (λ b. b && list_all (is_raised q) (p ∷ [])) some ∙ (and_true (is_raised q p) ∙ ap (is_raised q) e)

owed : (c : Chain) (call : ℕ) (run : Option Run) → option_map call_of run ≡ Some call → owes c run ≡ c.owing call
owed c call None by = absurd (cc)
owed c call (Some run) by = let e : run.call ≡ call = cc in ap c.owing e

forgotten_found : (c : Chain) (call : ℕ) (found : Option (ℕ × ℕ)) → slice_get (left_pairs c.notes) 0 ≡ found → owner c.notes found ≡ Some call
    → forgotten c found ≡ (first_are_raised 1 c.notes && not (c.owing call))
forgotten_found c call None at by = absurd (cc)
forgotten_found c call (Some pair) at by =
    ap₂ (λ (a : Bool) (b : Bool). a && not b) (sym (first_of c.notes (left_pairs c.notes) pair (length-left_pairs c.notes) at)) (owed c call (slice_get c.notes.history pair.0) by)

-- a note is forgotten where it is raised and its call owes no notify
pub forgotten_by : (c : Chain) (call : ℕ) → first_call c.notes ≡ Some call → is_forgotten c ≡ (first_are_raised 1 c.notes && not (c.owing call))
forgotten_by c call by = forgotten_found c call (slice_get (left_pairs c.notes) 0) refl by
