-- A queue as it is stored: its runs lie side by side, each flag beside its item.
use Rattle.quaject_core.proofs.Common.{◌≡◌, ◌≢◌, ℕ, zero, suc, ◌+◌, ◌<◌, ◌≤◌, ◌-◌, Bool, true, false, ◌&&◌, ◌||◌, cond, List, [], ◌∷◌, ◌++◌, ◌∙◌, map, length, take, drop, set, get_or, refl, sym, ap, ap₂, subst, arith, length-drop, zero-add, add-zero, Option, Some, None, option_map, slice_get, eqb, ltb, count_by, filter, inl, inr, cases_lt, eqb-true, nat_tests, length-take-le, map-append, map-set, take-append-le, drop-append-le, take-append-drop, drop-drop, drop_all, take_all, drop_at, get_or-append-add, get_or-set_other, length-map, take-map, drop-map, list_all, drop-cons, map-set_same, slice_get-map, Run, flat, pairs_of, pairs_from, pairs, Queue, left, left_pairs, is_raised, after_claim, after_raise, fresh, item_of, flag_of, run_at, flag_at, queue_at, Laid, StoredItem, Span, queue, StoredQueue, same_set, both, slice_get-drop}
use Rattle.std.proofs.lemmas.List.Folds.{list_all-map}
use Rattle.std.proofs.lemmas.List.Sums.{length-filter}
use Rattle.std.proofs.Math.ListN.{get_or-append}
use Rattle.std.proofs.lemmas.Grind.{get_or-set_at}

pub laid_rises : (start : ℕ) (spans : List Span) (end : ℕ) → Laid start spans end → start ≤ end
laid_rises start [] end laid = omega (arith, laid)
laid_rises start (span ∷ spans) end laid = omega (arith, laid_rises (start + span.count) spans end laid.1)

-- a run lies within the places
pub span_within : (start : ℕ) (spans : List Span) (end : ℕ) → Laid start spans end → (run : ℕ) (s : Span) → slice_get spans run ≡ Some s
    → (start ≤ s.start) × (s.start + s.count ≤ end)
span_within start [] end laid run s at = absurd (cc)
span_within start (span ∷ spans) end laid zero s at =
    let e : span ≡ s = cc in
    let p : span.start ≡ start = laid.0 in
    let h : start + span.count ≤ end = laid_rises (start + span.count) spans end laid.1 in
    subst (λ x. (start ≤ x.start) × (x.start + x.count ≤ end)) e (omega arith, omega arith)
span_within start (span ∷ spans) end laid (suc run) s at =
    let h = span_within (start + span.count) spans end laid.1 run s at in
    (omega (arith, h.0), h.1)

-- no place is in two runs, nor twice in one
pub span_apart : (start : ℕ) (spans : List Span) (end : ℕ) → Laid start spans end → (r t i j : ℕ) (a b : Span) → slice_get spans r ≡ Some a → slice_get spans t ≡ Some b
    → i < a.count → j < b.count → a.start + i ≡ b.start + j → (r ≡ t) × (i ≡ j)
span_apart start [] end laid r t i j a b at_r at_t hi hj same = absurd (cc)
span_apart start (span ∷ spans) end laid zero zero i j a b at_r at_t hi hj same =
    let e : a ≡ b = cc in
    let s : a.start ≡ b.start = ap (λ x. x.start) e in
    (refl, omega arith)
span_apart start (span ∷ spans) end laid zero (suc t) i j a b at_r at_t hi hj same =
    let e : span ≡ a = cc in
    let s : span.start ≡ a.start = ap (λ x. x.start) e in
    let n : span.count ≡ a.count = ap (λ x. x.count) e in
    let p : span.start ≡ start = laid.0 in
    let h = span_within (start + span.count) spans end laid.1 t b at_t in
    absurd (omega (arith, h.0))
span_apart start (span ∷ spans) end laid (suc r) zero i j a b at_r at_t hi hj same =
    let e : span ≡ b = cc in
    let s : span.start ≡ b.start = ap (λ x. x.start) e in
    let n : span.count ≡ b.count = ap (λ x. x.count) e in
    let p : span.start ≡ start = laid.0 in
    let h = span_within (start + span.count) spans end laid.1 r a at_r in
    absurd (omega (arith, h.0))
span_apart start (span ∷ spans) end laid (suc r) (suc t) i j a b at_r at_t hi hj same =
    let h = span_apart (start + span.count) spans end laid.1 r t i j a b at_r at_t hi hj same in
    (ap suc h.0, h.1)

-- the items of all runs are those of all places
pub flat_laid : (xs : List ℕ) (start : ℕ) (spans : List Span) → Laid start spans (length xs) → flat (map (run_at xs) spans) ≡ drop start xs
flat_laid xs start [] laid = sym (drop_all start xs (omega (arith, laid)))
flat_laid xs start (span ∷ spans) laid =
    rw (flat_laid xs (start + span.count) spans laid.1, laid.0, sym (drop-drop span.count start xs)) (take-append-drop span.count (drop start xs))

pub items_laid : (xs : List ℕ) (spans : List Span) → Laid 0 spans (length xs) → flat (map (run_at xs) spans) ≡ xs
items_laid xs spans laid = flat_laid xs 0 spans laid

-- the flag of a pair
abbrev flag_by : List Bool → List Span → ℕ × ℕ → Bool
flag_by flags spans pair = flag_at flags pair.1 (slice_get spans pair.0)

one_flag : (flags : List Bool) (s : Span) (start i : ℕ) → s.start ≡ start → i < s.count → flag_at flags i (Some s) ≡ get_or flags (start + i) false
one_flag flags s start i at below = let t : ltb i s.count ≡ true = grind (arith, nat_tests) in rw (t, at) refl

flags_of_run : (flags : List Bool) (spans : List Span) (s : Span) (number start i : ℕ) (ys : List ℕ) → slice_get spans number ≡ Some s → s.start ≡ start
    → i + length ys ≤ s.count → start + s.count ≤ length flags
    → map (flag_by flags spans) (pairs_of number i ys) ≡ take (length ys) (drop (start + i) flags)
flags_of_run flags spans s number start i [] at from fits within = refl
flags_of_run flags spans s number start i (y ∷ ys) at from fits within =
    let below : start + i < length flags = omega arith in
    let head : flag_by flags spans (number, i) ≡ get_or flags (start + i) false = ap (flag_at flags i) at ∙ one_flag flags s start i from (omega arith) in
    let next : start + (i + 1) ≡ suc (start + i) = omega arith in
    let tail : map (flag_by flags spans) (pairs_of number (i + 1) ys) ≡ take (length ys) (drop (suc (start + i)) flags) =
    flags_of_run flags spans s number start (i + 1) ys at from (omega arith) within ∙ ap (λ n. take (length ys) (drop n flags)) next in
    rw (drop-cons flags (start + i) false below) (ap₂ (λ x xs. x ∷ xs) head tail)

flags_laid_from : (xs : List ℕ) (flags : List Bool) (spans : List Span) (number start : ℕ) (rest : List Span) → length xs ≡ length flags → Laid start rest (length flags)
    → ((k : ℕ) → slice_get spans (number + k) ≡ slice_get rest k)
    → map (flag_by flags spans) (pairs_from number (map (run_at xs) rest)) ≡ drop start flags
flags_laid_from xs flags spans number start [] long laid found = sym (drop_all start flags (omega (arith, laid)))
flags_laid_from xs flags spans number start (s ∷ rest) long laid found =
    let p : s.start ≡ start = laid.0 in
    let h : start + s.count ≤ length flags = laid_rises (start + s.count) rest (length flags) laid.1 in
    let ys : List ℕ = take s.count (drop s.start xs) in
    let n : length ys ≡ s.count = length-take-le s.count (drop s.start xs) (omega (arith, length-drop s.start xs)) in
    let at : slice_get spans number ≡ Some s = ap (slice_get spans) (sym (add-zero number)) ∙ found 0 in
    let first : map (flag_by flags spans) (pairs_of number 0 ys) ≡ take s.count (drop start flags) =
    flags_of_run flags spans s number start 0 ys at p (omega arith) h ∙ ap₂ (λ a b. take a (drop b flags)) n (add-zero start) in
    let others : map (flag_by flags spans) (pairs_from (number + 1) (map (run_at xs) rest)) ≡ drop (start + s.count) flags =
    flags_laid_from xs flags spans (number + 1) (start + s.count) rest long laid.1 (λ k. ap (slice_get spans) (let e : number + 1 + k ≡ number + suc k = omega arith in e) ∙ found (suc k)) in
    map-append (flag_by flags spans) (pairs_of number 0 ys) (pairs_from (number + 1) (map (run_at xs) rest))
    ∙ ap₂ (λ a b. a ++ b) first (others ∙ sym (drop-drop s.count start flags)) ∙ take-append-drop s.count (drop start flags)

-- the flags of all pairs are those of all places
pub flags_laid : (capacity : ℕ) (spans : List Span) (places : List StoredItem) (taken : ℕ) (shut : Bool) → Laid 0 spans (length places)
    → map (is_raised (queue_at capacity spans places taken shut)) (pairs (queue_at capacity spans places taken shut).history) ≡ map flag_of places
flags_laid capacity spans places taken shut laid =
    let e : length (map item_of places) ≡ length (map flag_of places) = length-map places item_of ∙ sym (length-map places flag_of) in
    let l : Laid 0 spans (length (map flag_of places)) = subst (Laid 0 spans) (sym (length-map places flag_of)) laid in
    flags_laid_from (map item_of places) (map flag_of places) spans 0 0 spans e l (λ k. ap (slice_get spans) (zero-add k))

-- as many items were claimed as there are places
pub length_stored : (capacity : ℕ) (spans : List Span) (places : List StoredItem) (taken : ℕ) (shut : Bool) → Laid 0 spans (length places)
    → length (flat (queue_at capacity spans places taken shut).history) ≡ length places
length_stored capacity spans places taken shut laid =
    let l : Laid 0 spans (length (map item_of places)) = subst (Laid 0 spans) (sym (length-map places item_of)) laid in
    ap length (items_laid (map item_of places) spans l) ∙ length-map places item_of

items_of_fresh : (items : List ℕ) → map item_of (map fresh items) ≡ items
items_of_fresh [] = refl
items_of_fresh (item ∷ items) = ap (λ xs. item ∷ xs) (items_of_fresh items)

no_flag_of_fresh : (items : List ℕ) (i : ℕ) → get_or (map flag_of (map fresh items)) i false ≡ false
no_flag_of_fresh [] i = refl
no_flag_of_fresh (item ∷ items) zero = refl
no_flag_of_fresh (item ∷ items) (suc i) = no_flag_of_fresh items i

-- the runs stay where places are appended
runs_kept : (xs ys : List ℕ) (start : ℕ) (spans : List Span) → Laid start spans (length xs) → map (run_at (xs ++ ys)) spans ≡ map (run_at xs) spans
runs_kept xs ys start [] laid = refl
runs_kept xs ys start (s ∷ spans) laid =
    let p : s.start ≡ start = laid.0 in
    let h : start + s.count ≤ length xs = laid_rises (start + s.count) spans (length xs) laid.1 in
    let from : s.start ≤ length xs = omega arith in
    let count : s.count ≤ length (drop s.start xs) = omega (arith, length-drop s.start xs) in
    let same : take s.count (drop s.start (xs ++ ys)) ≡ take s.count (drop s.start xs) =
    ap (take s.count) (drop-append-le s.start xs ys from) ∙ take-append-le s.count (drop s.start xs) ys count in
    ap₂ (λ (items : List ℕ) (runs : List Run). record { call = s.call; items = items } ∷ runs) same (runs_kept xs ys (start + s.count) spans laid.1)

no_flag : (b : Bool) → (b && false) ≡ false
no_flag true = refl
no_flag false = refl

old_flag : (fl fs : List Bool) (a : Span) (i : ℕ) → a.start + a.count ≤ length fl → flag_at (fl ++ fs) i (Some a) ≡ flag_at fl i (Some a)
old_flag fl fs a i within = elim (cases_lt i a.count) [
  | inl below ↦ ap (λ b. ltb i a.count && b) (get_or-append fl fs false (a.start + i) (omega arith))
  | inr past ↦ (let t : ltb i a.count ≡ false = grind (arith, nat_tests) in rw t refl)
]

new_flag : (fl fs : List Bool) (s : Span) (i : ℕ) → s.start ≡ length fl → ((k : ℕ) → get_or fs k false ≡ false) → flag_at (fl ++ fs) i (Some s) ≡ false
new_flag fl fs s i at low =
    ap (λ b. ltb i s.count && b) (ap (λ n. get_or (fl ++ fs) (n + i) false) at ∙ (get_or-append-add fl fs i false ∙ low i)) ∙ no_flag (ltb i s.count)

flags_kept : (fl fs : List Bool) (s : Span) (start : ℕ) (spans : List Span) → Laid start spans (length fl) → s.start ≡ length fl → ((k : ℕ) → get_or fs k false ≡ false)
    → (run i : ℕ) → flag_at (fl ++ fs) i (slice_get (spans ++ s ∷ []) run) ≡ flag_at fl i (slice_get spans run)
flags_kept fl fs s start [] laid at low zero i = new_flag fl fs s i at low
flags_kept fl fs s start [] laid at low (suc run) i = refl
flags_kept fl fs s start (a ∷ spans) laid at low zero i =
    let p : a.start ≡ start = laid.0 in
    let h : start + a.count ≤ length fl = laid_rises (start + a.count) spans (length fl) laid.1 in
    old_flag fl fs a i (omega arith)
flags_kept fl fs s start (a ∷ spans) laid at low (suc run) i = flags_kept fl fs s (start + a.count) spans laid.1 at low run i

pub same_queue : (capacity taken : ℕ) (shut : Bool) (h k : List Run) (f g : ℕ → ℕ → Bool) → h ≡ k → f ≡ g
    → ◌≡◌ {A = Queue} (record { history = h; raised = f; taken = taken; capacity = capacity; shut = shut }) (record { history = k; raised = g; taken = taken; capacity = capacity; shut = shut })
same_queue capacity taken shut h k f g eh ef = ap₂ (λ (x : List Run) (y : ℕ → ℕ → Bool). record { history = x; raised = y; taken = taken; capacity = capacity; shut = shut }) eh ef

-- what a claim stores
pub stored_claim : (capacity : ℕ) (spans : List Span) (places : List StoredItem) (taken call : ℕ) (shut : Bool) (items : List ℕ) (s : Span) → Laid 0 spans (length places)
    → s ≡ record { call = call; start = length places; count = length items }
    → queue_at capacity (spans ++ s ∷ []) (places ++ map fresh items) taken shut ≡ after_claim call items (queue_at capacity spans places taken shut)
stored_claim capacity spans places taken call shut items s laid is =
    let xs : List ℕ = map item_of places in
    let fl : List Bool = map flag_of places in
    let fs : List Bool = map flag_of (map fresh items) in
    let at : s.start ≡ length places = ap (λ x. x.start) is in
    let count : s.count ≡ length items = ap (λ x. x.count) is in
    let by : s.call ≡ call = ap (λ x. x.call) is in
    let laid_xs : Laid 0 spans (length xs) = subst (Laid 0 spans) (sym (length-map places item_of)) laid in
    let laid_fl : Laid 0 spans (length fl) = subst (Laid 0 spans) (sym (length-map places flag_of)) laid in
    let all_items : map item_of (places ++ map fresh items) ≡ xs ++ items = map-append item_of places (map fresh items) ∙ ap (λ ys. xs ++ ys) (items_of_fresh items) in
    let all_flags : map flag_of (places ++ map fresh items) ≡ fl ++ fs = map-append flag_of places (map fresh items) in
    let start_xs : length xs ≡ s.start = length-map places item_of ∙ sym at in
    let run_items : take s.count (drop s.start (xs ++ items)) ≡ items =
    ap (take s.count) (drop_at xs items s.start start_xs) ∙ take_all s.count items (omega arith) in
    let new_run : ◌≡◌ {A = Run} (run_at (xs ++ items) s) (record { call = call; items = items }) =
    ap₂ (λ (c : ℕ) (ys : List ℕ). record { call = c; items = ys }) by run_items in
    let history : map (run_at (map item_of (places ++ map fresh items))) (spans ++ s ∷ []) ≡ map (run_at xs) spans ++ record { call = call; items = items } ∷ [] =
    ap (λ ys. map (run_at ys) (spans ++ s ∷ [])) all_items ∙ (map-append (run_at (xs ++ items)) spans (s ∷ [])
    ∙ ap₂ (λ (h : List Run) (r : Run). h ++ r ∷ []) (runs_kept xs items 0 spans laid_xs) new_run) in
    let flags : (run i : ℕ) → flag_at (map flag_of (places ++ map fresh items)) i (slice_get (spans ++ s ∷ []) run) ≡ flag_at fl i (slice_get spans run) =
    λ run i. ap (λ bs. flag_at bs i (slice_get (spans ++ s ∷ []) run)) all_flags
    ∙ flags_kept fl fs s 0 spans laid_fl (at ∙ sym (length-map places flag_of)) (no_flag_of_fresh items) run i in
    same_queue capacity taken shut _ _ _ _ history (same_set _ _ flags)

-- where the last run ends
pub laid_claim : (start : ℕ) (spans : List Span) (end : ℕ) (s : Span) (last : ℕ) → Laid start spans end → s.start ≡ end → end + s.count ≡ last → Laid start (spans ++ s ∷ []) last
laid_claim start [] end s last laid at to = (omega (arith, laid), omega (arith, laid))
laid_claim start (a ∷ spans) end s last laid at to = (laid.0, laid_claim (start + a.count) spans end s last laid.1 at to)

pair_is : (r run i index : ℕ) → (eqb r run && eqb i index) ≡ true → (r ≡ run) × (i ≡ index)
pair_is r run i index h = let b = both (eqb r run) (eqb i index) h in (eqb-true r run b.0, eqb-true i index b.1)

one_span : (spans : List Span) (r run : ℕ) (a s : Span) → slice_get spans r ≡ Some a → slice_get spans run ≡ Some s → r ≡ run → a ≡ s
one_span spans r run a s found at same = let e : Some a ≡ Some s = sym found ∙ (ap (slice_get spans) same ∙ at) in cc

-- a flag past the end of its run
set_past : (fl : List Bool) (spans : List Span) (run index r i k : ℕ) (s a : Span) (x : Bool) → slice_get spans run ≡ Some s → index < s.count → slice_get spans r ≡ Some a
    → a.count ≤ i → (eqb r run && eqb i index) ≡ x → flag_at (set fl k true) i (Some a) ≡ (x || flag_at fl i (Some a))
set_past fl spans run index r i k s a false at below found past is = let t : ltb i a.count ≡ false = grind (arith, nat_tests) in rw t refl
set_past fl spans run index r i k s a true at below found past is =
    let p = pair_is r run i index is in
    let e : a.count ≡ s.count = ap (λ x. x.count) (one_span spans r run a s found at p.0) in
    let j : i ≡ index = p.1 in
    absurd (omega arith)

other_pair : {r run i index : ℕ} → (r ≡ run) × (i ≡ index) → (eqb r run && eqb i index) ≡ false → ⊥
other_pair {r} {run} {i} {index} same is =
    let a : eqb r run ≡ true = (let e : r ≡ run = same.0 in grind (arith, nat_tests)) in
    let b : eqb i index ≡ true = (let e : i ≡ index = same.1 in grind (arith, nat_tests)) in
    let t : (eqb r run && eqb i index) ≡ true = rw (a, b) refl in
    let clash : true ≡ false = sym t ∙ is in
    cc

-- a flag within its run
set_within : (fl : List Bool) (start : ℕ) (spans : List Span) (run index r i : ℕ) (s a : Span) (x : Bool) → Laid start spans (length fl) → slice_get spans run ≡ Some s → index < s.count
    → slice_get spans r ≡ Some a → i < a.count → (eqb r run && eqb i index) ≡ x → flag_at (set fl (s.start + index) true) i (Some a) ≡ (x || flag_at fl i (Some a))
set_within fl start spans run index r i s a true laid at below found within is =
    let p = pair_is r run i index is in
    let e : a.start ≡ s.start = ap (λ x. x.start) (one_span spans r run a s found at p.0) in
    let j : i ≡ index = p.1 in
    let h = span_within start spans (length fl) laid run s at in
    let inside : s.start + index < length fl = omega (arith, h.1) in
    let here : a.start + i ≡ s.start + index = omega arith in
    let t : ltb i a.count ≡ true = grind (arith, nat_tests) in
    ap (λ b. b && get_or (set fl (s.start + index) true) (a.start + i) false) t ∙ get_or-set_at fl (s.start + index) (a.start + i) true false here inside
set_within fl start spans run index r i s a false laid at below found within is =
    let other : a.start + i ≢ s.start + index = λ e. other_pair (span_apart start spans (length fl) laid r run i index a s found at within below e) is in
    ap (λ b. ltb i a.count && b) (get_or-set_other fl (s.start + index) (a.start + i) true false other)

set_flag : (fl : List Bool) (start : ℕ) (spans : List Span) (run index r i : ℕ) (s : Span) (found : Option Span) → Laid start spans (length fl) → slice_get spans run ≡ Some s
    → index < s.count → slice_get spans r ≡ found
    → flag_at (set fl (s.start + index) true) i found ≡ ((eqb r run && eqb i index) || flag_at fl i found)
set_flag fl start spans run index r i s None laid at below found =
    let other : r ≢ run = λ e. (let clash : None ≡ Some s = sym found ∙ (ap (slice_get spans) e ∙ at) in cc) in
    let t : eqb r run ≡ false = grind (arith, nat_tests) in
    rw t refl
set_flag fl start spans run index r i s (Some a) laid at below found = elim (cases_lt i a.count) [
  | inl within ↦ set_within fl start spans run index r i s a _ laid at below found within refl
  | inr past ↦ set_past fl spans run index r i (s.start + index) s a _ at below found past refl
]

-- what a raise stores
pub stored_raise : (capacity : ℕ) (spans : List Span) (places : List StoredItem) (taken run index : ℕ) (shut : Bool) (s : Span) (d : StoredItem) → Laid 0 spans (length places)
    → slice_get spans run ≡ Some s → index < s.count
    → queue_at capacity spans (set places (s.start + index) (record { item = (get_or places (s.start + index) d).item; raised = true })) taken shut
    ≡ after_raise run index (queue_at capacity spans places taken shut)
stored_raise capacity spans places taken run index shut s d laid at below =
    let k : ℕ = s.start + index in
    let fl : List Bool = map flag_of places in
    let laid_fl : Laid 0 spans (length fl) = subst (Laid 0 spans) (sym (length-map places flag_of)) laid in
    let items : map item_of (set places k (record { item = (get_or places k d).item; raised = true })) ≡ map item_of places =
    map-set_same item_of places k (record { item = (get_or places k d).item; raised = true }) d refl in
    let flags : map flag_of (set places k (record { item = (get_or places k d).item; raised = true })) ≡ set fl k true =
    map-set flag_of places k (record { item = (get_or places k d).item; raised = true }) in
    same_queue capacity taken shut _ _ _ _ (ap (λ xs. map (run_at xs) spans) items)
    (same_set _ _ (λ r i. ap (λ bs. flag_at bs i (slice_get spans r)) flags ∙ set_flag fl 0 spans run index r i s (slice_get spans r) laid_fl at below refl))

-- the run that a lookup finds
pub stored_run : (xs : List ℕ) (spans : List Span) (run : ℕ) (s : Span) → slice_get spans run ≡ Some s → slice_get (map (run_at xs) spans) run ≡ Some (run_at xs s)
stored_run xs spans run s at = slice_get-map (run_at xs) spans run ∙ ap (option_map (run_at xs)) at

-- how many items it has
pub run_count : (xs : List ℕ) (start : ℕ) (spans : List Span) (run : ℕ) (s : Span) → Laid start spans (length xs) → slice_get spans run ≡ Some s
    → length (run_at xs s).items ≡ s.count
run_count xs start spans run s laid at =
    let h = span_within start spans (length xs) laid run s at in
    length-take-le s.count (drop s.start xs) (omega (arith, h.1, length-drop s.start xs))

one_more : {X Y : Type 0} (b : Bool) (x : X) (y : Y) (xs : List X) (ys : List Y) → length xs ≡ length ys → length (cond b (x ∷ xs) xs) ≡ length (cond b (y ∷ ys) ys)
one_more true x y xs ys same = ap suc same
one_more false x y xs ys same = same

length-filter-map : {X : Type 0} (p : X → Bool) (xs : List X) → length (filter (λ b. b) (map p xs)) ≡ length (filter p xs)
length-filter-map p [] = refl
length-filter-map p (x ∷ xs) = one_more (p x) (p x) x (filter (λ b. b) (map p xs)) (filter p xs) (length-filter-map p xs)

count_by-map : {X : Type 0} (p : X → Bool) (xs : List X) → count_by (λ b. b) (map p xs) ≡ count_by p xs
count_by-map p xs = sym (length-filter (λ b. b) (map p xs)) ∙ (length-filter-map p xs ∙ length-filter p xs)

pub taken_stored : (stored : StoredQueue) → stored.taken ≤ length stored.places.items
taken_stored stored = omega (arith, length_stored stored.capacity stored.runs.items stored.places.items stored.taken stored.shut stored.laid_out, stored.lawful.taken_within)

pub left_stored : (stored : StoredQueue) → length (left (queue stored)) ≡ length stored.places.items - stored.taken
left_stored stored = omega (arith, length_stored stored.capacity stored.runs.items stored.places.items stored.taken stored.shut stored.laid_out, length-drop stored.taken (flat (queue stored).history))

pub left_fits : (stored : StoredQueue) → length stored.places.items - stored.taken ≤ stored.capacity
left_fits stored = omega (arith, left_stored stored, stored.lawful.fits)

-- the flags of the first items that are left
pub first_stored : (stored : StoredQueue) (count : ℕ) → list_all flag_of (take count (drop stored.taken stored.places.items)) ≡ list_all (is_raised (queue stored)) (take count (left_pairs (queue stored)))
first_stored stored count =
    let flags = flags_laid stored.capacity stored.runs.items stored.places.items stored.taken stored.shut stored.laid_out in
    let places : list_all (λ b. b) (map flag_of (take count (drop stored.taken stored.places.items))) ≡ list_all flag_of (take count (drop stored.taken stored.places.items)) =
    list_all-map (λ b. b) flag_of (take count (drop stored.taken stored.places.items)) in
    let all : list_all (λ b. b) (map (is_raised (queue stored)) (take count (left_pairs (queue stored)))) ≡ list_all (is_raised (queue stored)) (take count (left_pairs (queue stored))) =
    list_all-map (λ b. b) (is_raised (queue stored)) (take count (left_pairs (queue stored))) in
    let same : map flag_of (take count (drop stored.taken stored.places.items)) ≡ map (is_raised (queue stored)) (take count (left_pairs (queue stored))) =
    sym (take-map flag_of count (drop stored.taken stored.places.items)) ∙ (ap (take count) (sym (drop-map flag_of stored.taken stored.places.items) ∙ (ap (drop stored.taken) (sym flags)
    ∙ drop-map (is_raised (queue stored)) stored.taken (pairs (queue stored).history))) ∙ take-map (is_raised (queue stored)) count (left_pairs (queue stored))) in
    sym places ∙ (ap (list_all (λ b. b)) same ∙ all)

-- how many of the items that are left are raised
pub raised_stored : (stored : StoredQueue) → count_by flag_of (drop stored.taken stored.places.items) ≡ count_by (is_raised (queue stored)) (left_pairs (queue stored))
raised_stored stored =
    let flags = flags_laid stored.capacity stored.runs.items stored.places.items stored.taken stored.shut stored.laid_out in
    let same : map flag_of (drop stored.taken stored.places.items) ≡ map (is_raised (queue stored)) (left_pairs (queue stored)) =
    sym (drop-map flag_of stored.taken stored.places.items) ∙ (ap (drop stored.taken) (sym flags) ∙ drop-map (is_raised (queue stored)) stored.taken (pairs (queue stored).history)) in
    sym (count_by-map flag_of (drop stored.taken stored.places.items)) ∙ (ap (count_by (λ b. b)) same ∙ count_by-map (is_raised (queue stored)) (left_pairs (queue stored)))

pub length_queue : (stored : StoredQueue) → length (flat (queue stored).history) ≡ length stored.places.items
length_queue stored = length_stored stored.capacity stored.runs.items stored.places.items stored.taken stored.shut stored.laid_out

-- the items of a stored queue
pub items_stored : (stored : StoredQueue) → flat (queue stored).history ≡ map item_of stored.places.items
items_stored stored =
    items_laid (map item_of stored.places.items) stored.runs.items (subst (Laid 0 stored.runs.items) (sym (length-map stored.places.items item_of)) stored.laid_out)

-- the first item that is left
pub first_item : (stored : StoredQueue) → slice_get (left (queue stored)) 0 ≡ option_map item_of (slice_get stored.places.items stored.taken)
first_item stored =
    ap (λ xs. slice_get (drop stored.taken xs) 0) (items_stored stored)
    ∙ (slice_get-drop (map item_of stored.places.items) stored.taken 0
    ∙ (ap (slice_get (map item_of stored.places.items)) (add-zero stored.taken) ∙ slice_get-map item_of stored.places.items stored.taken))
