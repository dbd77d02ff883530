-- A queue that is made full, as it is stored.
use Rattle.quaject_core.proofs.Common.{◌≡◌, ℕ, zero, suc, ◌+◌, ◌<◌, ◌≤◌, Bool, true, false, ◌&&◌, List, [], ◌∷◌, ◌++◌, ◌∙◌, map, length, take, drop, get_or, refl, sym, ap, ap₂, subst, arith, zero-add, add-zero, Option, Some, None, IfSome, slice_get, eqb, ltb, inl, inr, cases_lt, nat_tests, drop-drop, get_or-map, range_with_len, Run, full_queue, item_of, flag_of, run_at, flag_at, queue_at, Laid, IsLawfulQueue, StoredItem, Span, same_set}
use Rattle.std.proofs.lemmas.List.FromFn.{get_or-map-range_with_len, length-map-range_with_len, map-range_with_len_more}
use Rattle.event_theory.proofs.Keeping.First.{full_law}
use Rattle.quaject_core.proofs.Stored.Layout.{same_queue}

-- where a run of one item of the first call lies
abbrev pub single_span : ℕ → Span
single_span n = record { call = 0; start = n; count = 1 }

-- a place as it is made
abbrev pub raised_place : ℕ → StoredItem
raised_place n = record { item = n; raised = true }

abbrev single_run : ℕ → Run
single_run n = record { call = 0; items = n ∷ [] }

slice_get-map-range : {X : Type 0} (f : ℕ → X) (start count i : ℕ) → i < count → slice_get (map f (range_with_len start count)) i ≡ Some (f (start + i))
slice_get-map-range f start zero i within = absurd (omega arith)
slice_get-map-range f start (suc count) zero within = ap (λ n. Some (f n)) (sym (add-zero start))
slice_get-map-range f start (suc count) (suc i) within =
    let e : start + 1 + i ≡ start + suc i = omega arith in
    slice_get-map-range f (start + 1) count i (omega arith) ∙ ap (λ n. Some (f n)) e

slice_get-map-range_past : {X : Type 0} (f : ℕ → X) (start count i : ℕ) → count ≤ i → slice_get (map f (range_with_len start count)) i ≡ None
slice_get-map-range_past f start zero i past = refl
slice_get-map-range_past f start (suc count) zero past = absurd (omega arith)
slice_get-map-range_past f start (suc count) (suc i) past = slice_get-map-range_past f (start + 1) count i (omega arith)

items_of_raised : (xs : List ℕ) → map item_of (map raised_place xs) ≡ xs
items_of_raised [] = refl
items_of_raised (x ∷ xs) = ap (λ ys. x ∷ ys) (items_of_raised xs)

runs_of_full : (xs : List ℕ) (start count : ℕ) → drop start xs ≡ range_with_len start count
    → map (run_at xs) (map single_span (range_with_len start count)) ≡ map single_run (range_with_len start count)
runs_of_full xs start zero rest = refl
runs_of_full xs start (suc count) rest =
    let head : take 1 (drop start xs) ≡ start ∷ [] = ap (take 1) rest in
    let tail : drop (start + 1) xs ≡ range_with_len (start + 1) count = sym (drop-drop 1 start xs) ∙ ap (drop 1) rest in
    ap₂ (λ (items : List ℕ) (runs : List Run). record { call = 0; items = items } ∷ runs) head (runs_of_full xs (start + 1) count tail)

laid_full : (start count end : ℕ) → start + count ≡ end → Laid start (map single_span (range_with_len start count)) end
laid_full start zero end to = omega arith
laid_full start (suc count) end to = (refl, laid_full (start + 1) count end (omega arith))

flag_of_full : (count run index : ℕ) → run < count → get_or (map flag_of (map raised_place (range_with_len 0 count))) (run + 0) false ≡ true
flag_of_full count run index within =
    let d : StoredItem = raised_place 0 in
    let n : length (map raised_place (range_with_len 0 count)) ≡ count = length-map-range_with_len raised_place 0 count in
    get_or-map flag_of (map raised_place (range_with_len 0 count)) (run + 0) d false (omega arith)
    ∙ ap flag_of (get_or-map-range_with_len raised_place 0 count (run + 0) run d (omega arith) (omega arith))

flag_found : (flags : List Bool) (count run index : ℕ) → run < count → get_or flags (run + 0) false ≡ true → flag_at flags index (Some (single_span run)) ≡ (ltb run count && eqb index 0)
flag_found flags count run zero within set = let t : ltb run count ≡ true = grind (arith, nat_tests) in rw (t, set) refl
flag_found flags count run (suc index) within set =
    let t : ltb run count ≡ true = grind (arith, nat_tests) in
    let past : ltb (suc index) 1 ≡ false = grind (arith, nat_tests) in
    let other : eqb (suc index) 0 ≡ false = grind (arith, nat_tests) in
    rw (t, past, other) refl

flags_full : (count run index : ℕ) → flag_at (map flag_of (map raised_place (range_with_len 0 count))) index (slice_get (map single_span (range_with_len 0 count)) run)
    ≡ (ltb run count && eqb index 0)
flags_full count run index = elim (cases_lt run count) [
  | inl within ↦ ap (flag_at (map flag_of (map raised_place (range_with_len 0 count))) index) (slice_get-map-range single_span 0 count run within ∙ ap (λ n. Some (single_span n)) (zero-add run))
      ∙ flag_found (map flag_of (map raised_place (range_with_len 0 count))) count run index within (flag_of_full count run index within)
  | inr past ↦ (let t : ltb run count ≡ false = grind (arith, nat_tests) in
      ap (flag_at (map flag_of (map raised_place (range_with_len 0 count))) index) (slice_get-map-range_past single_span 0 count run past) ∙ rw t refl)
]

full_at : (count : ℕ) → queue_at count (map single_span (range_with_len 0 count)) (map raised_place (range_with_len 0 count)) 0 false ≡ full_queue count
full_at count =
    let items : map item_of (map raised_place (range_with_len 0 count)) ≡ range_with_len 0 count = items_of_raised (range_with_len 0 count) in
    same_queue count 0 false _ _ _ _
    (ap (λ xs. map (run_at xs) (map single_span (range_with_len 0 count))) items ∙ runs_of_full (range_with_len 0 count) 0 count refl)
    (same_set _ _ (λ run index. flags_full count run index))

-- the runs and the places that were made one after the other
pub full_stored : (count : ℕ) (spans : List Span) (places : List StoredItem) → spans ≡ map single_span (range_with_len 0 count) → places ≡ map raised_place (range_with_len 0 count)
    → queue_at count spans places 0 false ≡ full_queue count
full_stored count spans places runs put = ap₂ (λ (xs : List Span) (ys : List StoredItem). queue_at count xs ys 0 false) runs put ∙ full_at count

pub full_stored_laid : (count : ℕ) (spans : List Span) (places : List StoredItem) → spans ≡ map single_span (range_with_len 0 count) → places ≡ map raised_place (range_with_len 0 count)
    → Laid 0 spans (length places)
full_stored_laid count spans places runs put =
    let n : length places ≡ count = ap length put ∙ length-map-range_with_len raised_place 0 count in
    subst (λ x. Laid 0 x (length places)) (sym runs) (laid_full 0 count (length places) (omega arith))

pub first_call : (found : Option ℕ) (call : ℕ) → IfSome found (λ x. x ≡ 0) → found ≡ Some call → call ≡ 0
first_call None call is at = absurd (cc)
first_call (Some x) call is at = let e : x ≡ call = cc in sym e ∙ is

-- the runs and the places after one more of each
pub one_more_run : (count call start : ℕ) (before spans : List Span) → before ≡ map single_span (range_with_len 0 count) → call ≡ 0 → start ≡ count
    → spans ≡ before ++ record { call = call; start = start; count = 1 } ∷ [] → spans ≡ map single_span (range_with_len 0 (count + 1))
one_more_run count call start before spans so_far by at put =
    put ∙ (ap (λ (xs : List Span). xs ++ record { call = call; start = start; count = 1 } ∷ []) so_far
    ∙ (ap₂ (λ (c n : ℕ). let s : Span = record { call = c; start = n; count = 1 } in map single_span (range_with_len 0 count) ++ s ∷ []) by at
    ∙ sym (map-range_with_len_more single_span 0 count count (zero-add count))))

pub one_more_place : (count item : ℕ) (before places : List StoredItem) → before ≡ map raised_place (range_with_len 0 count) → item ≡ count
    → places ≡ before ++ record { item = item; raised = true } ∷ [] → places ≡ map raised_place (range_with_len 0 (count + 1))
one_more_place count item before places so_far at put =
    put ∙ (ap (λ (xs : List StoredItem). xs ++ record { item = item; raised = true } ∷ []) so_far
    ∙ (ap (λ (n : ℕ). let p : StoredItem = record { item = n; raised = true } in map raised_place (range_with_len 0 count) ++ p ∷ []) at
    ∙ sym (map-range_with_len_more raised_place 0 count count (zero-add count))))

-- a full queue, if its count is known by another name
pub full_named : (capacity count number : ℕ) (spans : List Span) (places : List StoredItem) → capacity ≡ count → number ≡ count
    → spans ≡ map single_span (range_with_len 0 number) → places ≡ map raised_place (range_with_len 0 number)
    → (queue_at capacity spans places 0 false ≡ full_queue count) × IsLawfulQueue (queue_at capacity spans places 0 false) × Laid 0 spans (length places)
full_named capacity count number spans places size all runs put =
    let runs_all : spans ≡ map single_span (range_with_len 0 count) = runs ∙ ap (λ n. map single_span (range_with_len 0 n)) all in
    let put_all : places ≡ map raised_place (range_with_len 0 count) = put ∙ ap (λ n. map raised_place (range_with_len 0 n)) all in
    let is : queue_at capacity spans places 0 false ≡ full_queue count = ap (λ n. queue_at n spans places 0 false) size ∙ full_stored count spans places runs_all put_all in
    (is, subst IsLawfulQueue (sym is) (full_law count), full_stored_laid count spans places runs_all put_all)
