-- The items of a closed queue, position by position, by the runs of its last end.
use Rattle.boot_laws.proofs.Common.{◌≡◌, ℕ, zero, suc, ◌+◌, ◌-◌, ◌<◌, ◌≤◌, Bool, true, List, [], ◌∷◌, map, length, get_or, refl, sym, ap, ◌∙◌, subst, arith, length-append, if◌then◌else◌, some, some-injective, some-ne-none, dite, dec_lt, get_elem?, ClosedNow, Batch, Owned, ListedOnce, all_places, Adjacent, item_of, items_from, by_bool, nat_tests, get_or_append_left, get_or-append_right, Cell, blank, lies_in, item_at}
use Rattle.claim_queue.specs.Own.{View}

-- the item of a run at a position
abbrev in_run : ℕ → Batch → ℕ
in_run p run = (get_or run.places (p - run.start) blank).item

lies : (p : ℕ) (run : Batch) → lies_in p run ≡ true → (run.start ≤ p) × (p < run.start + length run.places)
lies p run e = (grind (arith, nat_tests, e), grind (arith, nat_tests, e))

lies_there : (p : ℕ) (run : Batch) → run.start ≤ p → p < run.start + length run.places → lies_in p run ≡ true
lies_there p run low high = grind (arith, nat_tests, low, high)

-- the first run in which the position lies gives the position's item, as any such run does
reported : (p x : ℕ) (l : List Batch) → ((m : ℕ) (e : Batch) → get_elem? l m ≡ some e → lies_in p e ≡ true → in_run p e ≡ x)
    → (m : ℕ) (e : Batch) → get_elem? l m ≡ some e → lies_in p e ≡ true → item_at l p ≡ x
reported p x [] all m e at it = absurd (some-ne-none e (sym at))
reported p x (run ∷ runs) all zero e at it = let is : lies_in p run ≡ true = ap (lies_in p) (some-injective run e at) ∙ it in
    ap (λ (b : Bool). if b then in_run p run else item_at runs p) is ∙ all 0 run refl is
reported p x (run ∷ runs) all (suc m) e at it = by_bool (lies_in p run)
    (λ is. ap (λ (b : Bool). if b then in_run p run else item_at runs p) is ∙ all 0 run refl is)
    (λ isnt. ap (λ (b : Bool). if b then in_run p run else item_at runs p) isnt ∙ reported p x runs (λ m e at. all (suc m) e at) m e at it)

-- in a chained log each run has its places
in_log : (q p : ℕ) (log : List (Owned Batch)) → Adjacent q log → (k : ℕ) (o : Owned Batch) → get_elem? log k ≡ some o → lies_in p o.2 ≡ true
    → (q ≤ p) × (in_run p o.2 ≡ (get_or (all_places log) (p - q) blank).item)
in_log q p [] c k o at it = absurd (some-ne-none o (sym at))
in_log q p (x ∷ log) c zero o at it =
    let same : x ≡ o = some-injective x o at in
    let l = lies p x.2 (ap (λ (z : Owned Batch). lies_in p z.2) same ∙ it) in let l0 = l.0 in let l1 = l.1 in let s = c.0 in (
      omega arith,
      ap (λ (z : Owned Batch). in_run p z.2) (sym same) ∙ (ap (λ (z : ℕ). (get_or x.2.places (p - z) blank).item) s
          ∙ sym (ap (λ (z : Cell). z.item) (get_or_append_left x.2.places (all_places log) blank (p - q) (omega arith)))),
    )
in_log q p (x ∷ log) c (suc k) o at it =
    let h = in_log (q + length x.2.places) p log c.1 k o at it in let h0 = h.0 in (
      omega arith,
      h.1 ∙ ap (λ (z : Cell). z.item) (sym (get_or-append_right x.2.places (all_places log) (length x.2.places) (p - q) blank refl (omega arith)
          ∙ ap (λ (z : ℕ). get_or (all_places log) z blank) (let z : p - q - length x.2.places ≡ p - (q + length x.2.places) = omega arith in z))),
    )

-- and each position lies in one
some_run : (q i : ℕ) (log : List (Owned Batch)) → Adjacent q log → i < length (all_places log) → (k : ℕ) × (o : Owned Batch) × (get_elem? log k ≡ some o) × (lies_in (q + i) o.2 ≡ true)
some_run q i [] c low = absurd (omega arith)
some_run q i (x ∷ log) c low = dite (dec_lt i (length x.2.places))
    (λ inside. (0, x, refl, lies_there (q + i) x.2 (let s = c.0 in omega arith) (let s = c.0 in omega arith)))
    (λ outside. let long = length-append x.2.places (all_places log) in
    let r = some_run (q + length x.2.places) (i - length x.2.places) log c.1 (omega arith) in
    (suc r.0, r.1, r.2, subst (λ z. lies_in z r.1.2 ≡ true) (let z : q + length x.2.places + (i - length x.2.places) ≡ q + i = omega arith in z) r.3))

of_first : (l k : List Batch) (c m : ℕ) (x : Batch) → get_elem? {A = List Batch} (l ∷ []) c ≡ some k → get_elem? k m ≡ some x → get_elem? l m ≡ some x
of_first l k zero m x has is = subst (λ (z : List Batch). get_elem? z m ≡ some x) (sym (some-injective l k has)) is
of_first l k (suc c) m x has is = absurd (some-ne-none k (sym has))

one_item : (q i : ℕ) (log : List (Owned Batch)) (l : List Batch) → ListedOnce log (l ∷ []) → Adjacent q log → i < length (all_places log)
    → item_at l (q + i) ≡ (get_or (all_places log) i blank).item
one_item q i log l f c low =
    let r = some_run q i log c low in let s = f.stands r.0 r.1 r.2 in
    reported (q + i) (get_or (all_places log) i blank).item l
    (λ m e at it. let b = f.listed 0 l m e refl at in let h = in_log q (q + i) log c b.0 (0, m, e) b.1 it in
    h.1 ∙ ap (λ (z : ℕ). (get_or (all_places log) z blank).item) (let z : q + i - q ≡ i = omega arith in z))
    r.1.1 r.1.2 (of_first l s.0 r.1.0 r.1.1 r.1.2 s.1 s.2) r.3

listed : (l : List Batch) (p : ℕ) (xs : List Cell) → ((i : ℕ) → i < length xs → item_at l (p + i) ≡ (get_or xs i blank).item) → items_from l p (length xs) ≡ map item_of xs
listed l p [] h = refl
listed l p (x ∷ xs) h = λ k. (ap (item_at l) (let z : p ≡ p + 0 = omega arith in z) ∙ h 0 (omega arith)) k
    ∷ listed l (suc p) xs (λ i low. ap (item_at l) (let z : suc p + i ≡ p + suc i = omega arith in z) ∙ h (suc i) (omega arith)) k

-- the items at the positions of a closed queue are those of its places
pub items_are : (v : View) (first put taken : ℕ) (left : List _) (c : ClosedNow v first put taken left) → items_from v.own.runs first put ≡ map item_of v.seen.object.places
items_are v first put taken left c = let s = c.listed in
    ap (λ (z : ℕ). items_from v.own.runs z put) (sym c.starts) ∙ (ap (items_from v.own.runs v.seen.object.first) c.puts
    ∙ listed v.own.runs v.seen.object.first v.seen.object.places (λ i low. one_item v.seen.object.first i s.runs v.own.runs s.runs_are.filed s.runs_are.adjacent (let e = ap length s.runs_are.flat in omega arith)
    ∙ ap (λ (z : List Cell). (get_or z i blank).item) s.runs_are.flat))
