-- When each queue event is allowed, and what it then makes of a stored queue.
use Rattle.quaject_core.proofs.Common.{◌≡◌, ℕ, ◌+◌, ◌<◌, ◌≤◌, Bool, true, false, ◌&&◌, not, cond, List, [], ◌∷◌, ◌++◌, ◌∙◌, map, length, set, get_or, refl, sym, ap, ap₂, subst, arith, Some, None, slice_get, eqb, ltb, leb, Ok, Err, option_map, length-append, nat_tests, length-map, length-set, get_or-map, slice_get-map, slice_get_read, length_of, run_length, Queue, left, claim, raise, raise_of, first_are_raised, after_claim, after_raise, fresh, item_of, flag_of, run_at, flag_at, queue_at, Laid, IsLawfulQueue, queue, UnknownName, NotOwner, AlreadyRaised, StoredItem, Span, StoredQueue, claim_keeps, raise_keeps, take_keeps, leb-true, both}
use Rattle.quaject_core.proofs.Stored.Layout.{stored_claim, stored_raise, stored_run, run_count, span_within, laid_claim, left_stored, taken_stored}

claim_goes : (longest call : ℕ) (items : List ℕ) (q : Queue) → 0 < length items → length items ≤ longest → q.shut ≡ false → length (left q) + length items ≤ q.capacity
    → claim longest call items q ≡ Ok (after_claim call items q)
claim_goes longest call items q some short is_open room =
    let a : eqb (length items) 0 ≡ false = grind (arith, nat_tests) in
    let b : ltb longest (length items) ≡ false = grind (arith, nat_tests) in
    let d : ltb q.capacity (length (left q) + length items) ≡ false = grind (arith, nat_tests) in
    rw (a, b, is_open, d) refl

-- the runs and places of a queue after a claim
pub record Claimed (old : StoredQueue) (call : ℕ) (items : List ℕ) (spans : List Span) (places : List StoredItem) : Type 0 where
  pub some : 0 < length items
  pub is_open : old.shut ≡ false
  pub room : length (left (queue old)) + length items ≤ old.capacity
  pub more : places ≡ old.places.items ++ map fresh items
  pub start : ℕ
  pub at : start ≡ length old.places.items
  pub last : spans ≡ old.runs.items ++ record { call = call; start = start; count = length items } ∷ []

pub claimed_queue : (old : StoredQueue) (call : ℕ) (items : List ℕ) (spans : List Span) (places : List StoredItem) → Claimed old call items spans places
    → queue_at old.capacity spans places old.taken old.shut ≡ after_claim call items (queue old)
claimed_queue old call items spans places h =
    let s : Span = record { call = call; start = h.start; count = length items } in
    let is : s ≡ record { call = call; start = length old.places.items; count = length items } =
    ap (λ n. let x : Span = record { call = call; start = n; count = length items } in x) h.at in
    ap₂ (λ (xs : List Span) (ys : List StoredItem). queue_at old.capacity xs ys old.taken old.shut) h.last h.more
    ∙ stored_claim old.capacity old.runs.items old.places.items old.taken call old.shut items s old.laid_out is

pub claimed_lawful : (old : StoredQueue) (call : ℕ) (items : List ℕ) (spans : List Span) (places : List StoredItem) → Claimed old call items spans places
    → IsLawfulQueue (queue_at old.capacity spans places old.taken old.shut)
claimed_lawful old call items spans places h =
    subst IsLawfulQueue (sym (claimed_queue old call items spans places h)) (claim_keeps call items (queue old) old.lawful h.some h.room)

pub claimed_laid : (old : StoredQueue) (call : ℕ) (items : List ℕ) (spans : List Span) (places : List StoredItem) → Claimed old call items spans places
    → Laid 0 spans (length places)
claimed_laid old call items spans places h =
    let n : length places ≡ length old.places.items + length items =
    ap length h.more ∙ (length-append old.places.items (map fresh items) ∙ ap (λ k. length old.places.items + k) (length-map items fresh)) in
    subst (λ x. Laid 0 x (length places)) (sym h.last)
    (laid_claim 0 old.runs.items (length old.places.items) (record { call = call; start = h.start; count = length items }) (length places) old.laid_out h.at (sym n))

pub claimed_ok : (old : StoredQueue) (longest call : ℕ) (items : List ℕ) (spans : List Span) (places : List StoredItem) → length items ≤ longest → Claimed old call items spans places
    → claim longest call items (queue old) ≡ Ok (queue_at old.capacity spans places old.taken old.shut)
claimed_ok old longest call items spans places short h =
    claim_goes longest call items (queue old) h.some short h.is_open h.room ∙ ap Ok (sym (claimed_queue old call items spans places h))

-- the run that a raise names, as the queue has it
named : (old : StoredQueue) (run : ℕ) (s : Span) → slice_get old.runs.items run ≡ Some s
    → slice_get (queue old).history run ≡ Some (run_at (map item_of old.places.items) s)
named old run s at = stored_run (map item_of old.places.items) old.runs.items run s at

named_count : (old : StoredQueue) (run : ℕ) (s : Span) → slice_get old.runs.items run ≡ Some s → length (run_at (map item_of old.places.items) s).items ≡ s.count
named_count old run s at =
    run_count (map item_of old.places.items) 0 old.runs.items run s (subst (Laid 0 old.runs.items) (sym (length-map old.places.items item_of)) old.laid_out) at

pub raise_unknown_run : (old : StoredQueue) (call run index : ℕ) → slice_get old.runs.items run ≡ None → raise call run index (queue old) ≡ Err UnknownName
raise_unknown_run old call run index at =
    ap (raise_of call run index (queue old)) (slice_get-map (run_at (map item_of old.places.items)) old.runs.items run ∙ ap (option_map (run_at (map item_of old.places.items))) at)

raise_by : (old : StoredQueue) (call run index : ℕ) (s : Span) (past : Bool) (owner : Bool) (before : Bool) → slice_get old.runs.items run ≡ Some s
    → leb s.count index ≡ past → eqb s.call call ≡ owner → (queue old).raised run index ≡ before
    → raise call run index (queue old) ≡ cond past (Err UnknownName) (cond (not owner) (Err NotOwner) (cond before (Err AlreadyRaised) (Ok (after_raise run index (queue old)))))
raise_by old call run index s past owner before at ep eo eb =
    let p : leb (length (run_at (map item_of old.places.items) s).items) index ≡ past = ap (λ n. leb n index) (named_count old run s at) ∙ ep in
    ap (raise_of call run index (queue old)) (named old run s at)
    ∙ rw (p, eo, eb) refl

flag_found : (old : StoredQueue) (run index : ℕ) (s : Span) (d : StoredItem) → slice_get old.runs.items run ≡ Some s → index < s.count
    → (queue old).raised run index ≡ (get_or old.places.items (s.start + index) d).raised
flag_found old run index s d at below =
    let t : ltb index s.count ≡ true = grind (arith, nat_tests) in
    let h = span_within 0 old.runs.items (length old.places.items) old.laid_out run s at in
    ap (flag_at (map flag_of old.places.items) index) at
    ∙ (ap (λ b. b && get_or (map flag_of old.places.items) (s.start + index) false) t
    ∙ get_or-map flag_of old.places.items (s.start + index) d false (omega (arith, h.1)))

pub raise_past : (old : StoredQueue) (call run index : ℕ) (s : Span) → slice_get old.runs.items run ≡ Some s → s.count ≤ index → raise call run index (queue old) ≡ Err UnknownName
raise_past old call run index s at past =
    let t : leb s.count index ≡ true = grind (arith, nat_tests) in raise_by old call run index s true _ _ at t refl refl

pub raise_other : (old : StoredQueue) (call run index : ℕ) (s : Span) → slice_get old.runs.items run ≡ Some s → index < s.count → eqb s.call call ≡ false
    → raise call run index (queue old) ≡ Err NotOwner
raise_other old call run index s at below other =
    let t : leb s.count index ≡ false = grind (arith, nat_tests) in raise_by old call run index s false false _ at t other refl

pub raise_again : (old : StoredQueue) (call run index : ℕ) (s : Span) (place : StoredItem) → slice_get old.runs.items run ≡ Some s → index < s.count → eqb s.call call ≡ true
    → place ≡ get_or old.places.items (s.start + index) place → place.raised ≡ true → raise call run index (queue old) ≡ Err AlreadyRaised
raise_again old call run index s place at below own is before =
    let t : leb s.count index ≡ false = grind (arith, nat_tests) in
    raise_by old call run index s false true true at t own (flag_found old run index s place at below ∙ (sym (ap flag_of is) ∙ before))

-- what a raise makes of the places
pub raised_queue : (old : StoredQueue) (run index : ℕ) (s : Span) (place : StoredItem) → slice_get old.runs.items run ≡ Some s → index < s.count → place ≡ get_or old.places.items (s.start + index) place
    → queue_at old.capacity old.runs.items (set old.places.items (s.start + index) (record { item = place.item; raised = true })) old.taken old.shut ≡ after_raise run index (queue old)
raised_queue old run index s place at below is =
    ap (λ n. queue_at old.capacity old.runs.items (set old.places.items (s.start + index) (let p : StoredItem = record { item = n; raised = true } in p)) old.taken old.shut) (ap item_of is)
    ∙ stored_raise old.capacity old.runs.items old.places.items old.taken run index old.shut s place old.laid_out at below

pub raised_lawful : (old : StoredQueue) (run index : ℕ) (s : Span) (place : StoredItem) → slice_get old.runs.items run ≡ Some s → index < s.count → place ≡ get_or old.places.items (s.start + index) place
    → IsLawfulQueue (queue_at old.capacity old.runs.items (set old.places.items (s.start + index) (record { item = place.item; raised = true })) old.taken old.shut)
raised_lawful old run index s place at below is =
    let here : index < run_length (queue old).history run =
    subst (λ x. index < length_of x) (sym (named old run s at)) (omega (arith, named_count old run s at)) in
    subst IsLawfulQueue (sym (raised_queue old run index s place at below is)) (raise_keeps run index (queue old) old.lawful here)

pub raised_laid : (old : StoredQueue) (k : ℕ) (place : StoredItem) → Laid 0 old.runs.items (length (set old.places.items k place))
raised_laid old k place = subst (Laid 0 old.runs.items) (sym (length-set old.places.items k place)) old.laid_out

pub raised_ok : (old : StoredQueue) (call run index : ℕ) (s : Span) (place : StoredItem) → slice_get old.runs.items run ≡ Some s → index < s.count → eqb s.call call ≡ true
    → place ≡ get_or old.places.items (s.start + index) place → place.raised ≡ false
    → raise call run index (queue old) ≡ Ok (queue_at old.capacity old.runs.items (set old.places.items (s.start + index) (record { item = place.item; raised = true })) old.taken old.shut)
raised_ok old call run index s place at below own is before =
    let t : leb s.count index ≡ false = grind (arith, nat_tests) in
    raise_by old call run index s false true false at t own (flag_found old run index s place at below ∙ (sym (ap flag_of is) ∙ before))
    ∙ ap Ok (sym (raised_queue old run index s place at below is))

pub place_within : (old : StoredQueue) (run index : ℕ) (s : Span) → slice_get old.runs.items run ≡ Some s → index < s.count → s.start + index < length old.places.items
place_within old run index s at below =
    let h = span_within 0 old.runs.items (length old.places.items) old.laid_out run s at in omega (arith, h.1)

pub taken_lawful : (old : StoredQueue) (count : ℕ) → first_are_raised count (queue old) ≡ true → IsLawfulQueue (queue_at old.capacity old.runs.items old.places.items (old.taken + count) old.shut)
taken_lawful old count first = take_keeps count (queue old) old.lawful first

pub first_enough : (old : StoredQueue) (count : ℕ) → first_are_raised count (queue old) ≡ true → old.taken + count ≤ length old.places.items
first_enough old count first =
    let h = both (leb count (length (left (queue old)))) _ first in
    omega (arith, leb-true count (length (left (queue old))) h.0, left_stored old, taken_stored old)

-- the steps of a claim, one after the other
pub claimed_by : (old : StoredQueue) (call start : ℕ) (items : List ℕ) (runs spans : List Span) (before places : List StoredItem) → runs ≡ old.runs.items → before ≡ old.places.items
    → start ≡ length before → places ≡ before ++ map fresh items → spans ≡ runs ++ record { call = call; start = start; count = length items } ∷ []
    → 0 < length items → old.shut ≡ false → length (left (queue old)) + length items ≤ old.capacity → Claimed old call items spans places
claimed_by old call start items runs spans before places same_runs same_places at more last some is_open room = record {
  some = some;
  is_open = is_open;
  room = room;
  more = more ∙ ap (λ xs. xs ++ map fresh items) same_places;
  start = start;
  at = at ∙ ap length same_places;
  last = last ∙ ap (λ xs. let span : Span = record { call = call; start = start; count = length items } in xs ++ span ∷ []) same_runs;
}

pub not_true : (b : Bool) → true ≡ not b → b ≡ false
not_true true h = absurd (cc)
not_true false h = refl

pub not_false : (b : Bool) → false ≡ not b → b ≡ true
not_false true h = refl
not_false false h = absurd (cc)

-- two reads of one place
pub same_place : (xs : List StoredItem) (k : ℕ) (a b : StoredItem) → k < length xs → a ≡ get_or xs k a → b ≡ get_or xs k b → a.raised ≡ b.raised
same_place xs k a b within at bt =
    let e : Some a ≡ Some b = sym (slice_get_read xs (length xs) k a refl within at) ∙ slice_get_read xs (length xs) k b refl within bt in
    cc
