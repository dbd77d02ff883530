-- What a join makes of a stored queue.
use Rattle.quaject_core.proofs.Common.{◌≡◌, ℕ, zero, suc, ◌+◌, ◌<◌, ◌≤◌, Bool, List, [], ◌∷◌, ◌++◌, ◌∙◌, map, length, take, drop, set, get_or, refl, sym, ap, subst, arith, Option, Some, None, option_map, slice_get, slice_get-map, renamed, join_run, join_queue, renamed_span, item_of, flag_of, run_at, flag_at, queue_at, Laid, IsLawfulQueue, queue, Span, StoredQueue, same_set}
use Rattle.std.proofs.lemmas.List.{drop_all, take_all, append-nil}
use Rattle.event_theory.proofs.Keeping.Joins.{join_queue_law}
use Rattle.quaject_core.proofs.Stored.Layout.{same_queue}

-- a list of which the first items are changed
abbrev pub changed_up_to : {X : Type 0} → (X → X) → ℕ → List X → List X
changed_up_to f i xs = map f (take i xs) ++ drop i xs

pub changed_more : {X : Type 0} (f : X → X) (xs : List X) (i : ℕ) (d : X) → i < length xs → set (changed_up_to f i xs) i (f (get_or xs i d)) ≡ changed_up_to f (suc i) xs
changed_more f [] i d within = absurd (omega arith)
changed_more f (x ∷ xs) zero d within = refl
changed_more f (x ∷ xs) (suc i) d within = ap (λ ys. f x ∷ ys) (changed_more f xs i d (omega arith))

pub unchanged_at : {X : Type 0} (f : X → X) (xs : List X) (i : ℕ) (d : X) → get_or (changed_up_to f i xs) i d ≡ get_or xs i d
unchanged_at f [] zero d = refl
unchanged_at f [] (suc i) d = refl
unchanged_at f (x ∷ xs) zero d = refl
unchanged_at f (x ∷ xs) (suc i) d = unchanged_at f xs i d

pub changed_all : {X : Type 0} (f : X → X) (xs : List X) (i : ℕ) → length xs ≤ i → changed_up_to f i xs ≡ map f xs
changed_all f [] zero past = refl
changed_all f [] (suc i) past = refl
changed_all f (x ∷ xs) zero past = absurd (omega arith)
changed_all f (x ∷ xs) (suc i) past = ap (λ ys. f x ∷ ys) (changed_all f xs i (omega arith))

length-changed : {X : Type 0} (f : X → X) (xs : List X) (i : ℕ) → length (changed_up_to f i xs) ≡ length xs
length-changed f [] zero = refl
length-changed f [] (suc i) = refl
length-changed f (x ∷ xs) zero = refl
length-changed f (x ∷ xs) (suc i) = ap suc (length-changed f xs i)

-- the items of a vector after a loop over all of it
pub changed_whole : {X : Type 0} (f : X → X) (xs ys : List X) (i n : ℕ) → ys ≡ changed_up_to f i xs → length xs ≤ i → n ≡ length xs
    → take n (ys ++ drop (length ys) xs) ≡ map f xs
changed_whole f xs ys i n so_far past size =
    let same : length ys ≡ length xs = ap length so_far ∙ length-changed f xs i in
    ap (λ zs. take n (ys ++ zs)) (drop_all (length ys) xs (omega arith))
    ∙ (ap (take n) (append-nil ys) ∙ (take_all n ys (omega arith) ∙ (so_far ∙ changed_all f xs i past)))

-- a run is renamed in its place
pub renamed_more : (call other i name : ℕ) (old spans : List Span) (d : Span) → spans ≡ changed_up_to (renamed_span call other) i old → i < length old
    → name ≡ renamed call other (get_or spans i d).call
    → set spans i (record { call = name; start = (get_or spans i d).start; count = (get_or spans i d).count }) ≡ changed_up_to (renamed_span call other) (i + 1) old
renamed_more call other i name old spans d so_far within is =
    let f : Span → Span = renamed_span call other in
    let one : ◌≡◌ {A = Span} (record { call = name; start = (get_or spans i d).start; count = (get_or spans i d).count }) (f (get_or spans i d)) =
    ap (λ n. let s : Span = record { call = n; start = (get_or spans i d).start; count = (get_or spans i d).count } in s) is in
    let stood : get_or spans i d ≡ get_or old i d = ap (λ xs. get_or xs i d) so_far ∙ unchanged_at f old i d in
    let next : suc i ≡ i + 1 = omega arith in
    ap (set spans i) (one ∙ ap f stood) ∙ (ap (λ xs. set xs i (f (get_or old i d))) so_far
    ∙ (changed_more f old i d within ∙ ap (λ k. changed_up_to f k old) next))

joined_runs : (call other : ℕ) (xs : List ℕ) (spans : List Span) → map (run_at xs) (map (renamed_span call other) spans) ≡ map (join_run call other) (map (run_at xs) spans)
joined_runs call other xs [] = refl
joined_runs call other xs (s ∷ spans) = ap (λ runs. join_run call other (run_at xs s) ∷ runs) (joined_runs call other xs spans)

same_flag : (call other : ℕ) (flags : List Bool) (index : ℕ) (found : Option Span) → flag_at flags index (option_map (renamed_span call other) found) ≡ flag_at flags index found
same_flag call other flags index None = refl
same_flag call other flags index (Some s) = refl

joined_laid : (call other start : ℕ) (spans : List Span) (end : ℕ) → Laid start spans end → Laid start (map (renamed_span call other) spans) end
joined_laid call other start [] end laid = laid
joined_laid call other start (s ∷ spans) end laid = (laid.0, joined_laid call other (start + s.count) spans end laid.1)

-- the runs of a stored queue after a join
pub joined_stored : (old : StoredQueue) (call other : ℕ) → queue_at old.capacity (map (renamed_span call other) old.runs.items) old.places.items old.taken old.shut ≡ join_queue call other (queue old)
joined_stored old call other =
    let flags : List Bool = map flag_of old.places.items in
    same_queue old.capacity old.taken old.shut _ _ _ _ (joined_runs call other (map item_of old.places.items) old.runs.items)
    (same_set _ _ (λ run index. ap (flag_at flags index) (slice_get-map (renamed_span call other) old.runs.items run) ∙ same_flag call other flags index (slice_get old.runs.items run)))

pub joined_by : (old : StoredQueue) (call other : ℕ) (spans : List Span) → spans ≡ map (renamed_span call other) old.runs.items
    → queue_at old.capacity spans old.places.items old.taken old.shut ≡ join_queue call other (queue old)
joined_by old call other spans by = ap (λ xs. queue_at old.capacity xs old.places.items old.taken old.shut) by ∙ joined_stored old call other

pub joined_by_lawful : (old : StoredQueue) (call other : ℕ) (spans : List Span) → spans ≡ map (renamed_span call other) old.runs.items
    → IsLawfulQueue (queue_at old.capacity spans old.places.items old.taken old.shut)
joined_by_lawful old call other spans by = subst IsLawfulQueue (sym (joined_by old call other spans by)) (join_queue_law call other (queue old) old.lawful)

pub joined_by_laid : (old : StoredQueue) (call other : ℕ) (spans : List Span) → spans ≡ map (renamed_span call other) old.runs.items → Laid 0 spans (length old.places.items)
joined_by_laid old call other spans by =
    subst (λ x. Laid 0 x (length old.places.items)) (sym by) (joined_laid call other 0 old.runs.items (length old.places.items) old.laid_out)
