-- Items that are found one by one.
use Rattle.claim_queue.proofs.Common.{◌≡◌, ◌≢◌, ℕ, suc, ◌+◌, ◌-◌, ◌<◌, ◌≤◌, inl, List, [], ◌∷◌, ◌++◌, length, sym, refl, ap, ◌∙◌, subst, arith, length-append, append_assoc, map-append, length-map, dite, dec_lt, Positions, Step, load, Performed, stage_at, item_at, tail_of, raised_below, made_none, View, HasFound, IsScanned, IsStopped, flag_word, data_word, Scan, scanned, NoEnd, IsLine, HasRaised, Found}
use Rattle.std.proofs.lemmas.List.{get_or_append_left, get_or_push}
use Rattle.claim_queue.specs.Takings.{items_of}
use Rattle.claim_queue.proofs.Following.{then_look}
use Rattle.claim_queue.proofs.Stepping.{step_real}

-- THE ENTRIES

scanned_on : (room p : ℕ) (xs ys : Scan) → scanned room p (xs ++ ys) ≡ scanned room p xs ++ scanned room (p + length xs) ys
scanned_on room p [] ys = ap (λ (z : ℕ). scanned room z ys) (let e : p ≡ p + 0 = omega arith in e)
scanned_on room p (x ∷ xs) ys = ap (λ (z : List (Step Positions)). scanned room p (x ∷ []) ++ z) (scanned_on room (p + 1) xs ys ∙ ap (λ (z : ℕ). scanned room (p + 1) xs ++ scanned room z ys) (let e : p + 1 + length xs ≡ p + suc (length xs) = omega arith in e))

pub scan_long : (scan : Scan) (items : List ℕ) → items_of scan ≡ items → length scan ≡ length items
scan_long scan items is = sym (length-map scan (λ found. found.0)) ∙ ap length is

pub none_scanned : (room p : ℕ) (v : View) → IsScanned room v p [] v
none_scanned room p v = ([], refl, made_none v)

-- one item more in the list of the steps, at the next position
pub scanned_more : (room : ℕ) (t u v w : View) (p next x r : ℕ) (xs : List ℕ) → next ≡ p + length xs → IsScanned room t p xs u → Found u (flag_word room next) r v → r ≡ next + 1 → Found v (data_word room next) x w → IsScanned room t p (xs ++ x ∷ []) w
scanned_more room t u v w p next x r xs at (scan, is, made) a flag b = let one : Scan = (x, v.seen, w.seen) ∷ [] in let here : next ≡ p + length scan = at ∙ ap (λ (z : ℕ). p + z) (sym (scan_long scan xs is)) in let front : List (Step Positions) = scanned room p scan in
    let both = then_look t v w (front ++ load (flag_word room next) r v.seen ∷ []) (data_word room next) x (then_look t u v front (flag_word room next) r made a) b in
    let entries : (front ++ load (flag_word room next) r v.seen ∷ []) ++ load (data_word room next) x w.seen ∷ [] ≡ scanned room p (scan ++ one) =
    append_assoc front (load (flag_word room next) r v.seen ∷ []) (load (data_word room next) x w.seen ∷ [])
    ∙ ((λ i. front ++ load (flag_word room next) (flag i) v.seen ∷ load (data_word room next) x w.seen ∷ []) ∙ (ap (λ (z : ℕ). front ++ scanned room z one) here ∙ sym (scanned_on room p scan one))) in
    (scan ++ one, map-append (λ found. found.0) scan one ∙ ap (λ (z : List ℕ). z ++ x ∷ []) is, subst (λ (z : List (Step Positions)). Performed t z t.own w) entries both)

-- the flag of the next position was found not raised
pub stopped : (room : ℕ) (t u w : View) (p next flag : ℕ) (xs : List ℕ) → next ≡ p + length xs → IsScanned room t p xs u → Found u (flag_word room next) flag w → flag ≢ next + 1 → (tail_of w.seen.object ≤ next → HasRaised w.own.runs next → ⊥) → IsStopped room t p xs w
stopped room t u w p next flag xs at (scan, is, made) a ne mine = let e : next ≡ p + length scan = at ∙ ap (λ (z : ℕ). p + z) (sym (scan_long scan xs is)) in (
  scan,
  is,
  flag,
  w.seen,
  subst (λ (z : ℕ). flag ≢ z + 1) e ne,
  (λ following. subst (λ (z : ℕ). HasRaised w.own.runs z → ⊥) e (mine (omega arith))),
  subst (λ (z : ℕ). Performed t (scanned room p scan ++ load (flag_word room z) flag w.seen ∷ []) t.own w) e (then_look t u w (scanned room p scan) (flag_word room next) flag made a),
)

-- WHAT THEY SAY

pub found_look : (v w : View) (tail i r : ℕ) (xs : List ℕ) → Found v i r w → HasFound v tail xs → HasFound w tail xs
found_look v w tail i r xs a s = let f = a.grows.first in let m = a.grows.further in let from = s.first in let old = s.started in let at : tail - v.seen.object.first ≡ tail - w.seen.object.first = omega arith in record {
  first = omega arith;
  started = omega arith;
  up = λ i h. let u = s.up i h in let g = a.grows.more (tail - v.seen.object.first + i) in subst (λ (z : ℕ). 2 ≤ stage_at w.seen.object (z + i)) at (let y : 2 ≤ stage_at w.seen.object (tail - v.seen.object.first + i) = omega arith in y);
  items = λ i h late. let u = s.up i h in s.items i h (omega arith) ∙ (sym (a.grows.items (tail - v.seen.object.first + i) (raised_below v.seen.object (tail - v.seen.object.first + i) (omega arith))) ∙ ap (λ (z : ℕ). item_at w.seen.object (z + i)) at);
}

found_push : (v : View) (tail next x : ℕ) (xs : List ℕ) → next ≡ tail + length xs → HasFound v tail xs → 2 ≤ stage_at v.seen.object (next - v.seen.object.first) → (tail_of v.seen.object ≤ next → x ≡ item_at v.seen.object (next - v.seen.object.first)) → HasFound v tail (xs ++ x ∷ [])
found_push v tail next x xs here s up item = let from = s.first in let n = length-append xs (x ∷ []) in let at : next - v.seen.object.first ≡ tail - v.seen.object.first + length xs = omega arith in record {
  first = s.first;
  started = s.started;
  up = λ i h. dite (dec_lt i (length xs)) (λ y. s.up i y) (λ no. let e : next - v.seen.object.first ≡ tail - v.seen.object.first + i = omega arith in subst (λ (z : ℕ). 2 ≤ stage_at v.seen.object z) e up);
  items = λ i h late. dite (dec_lt i (length xs)) (λ y. get_or_append_left xs (x ∷ []) 0 i y ∙ s.items i y late)
      (λ no. let e : next - v.seen.object.first ≡ tail - v.seen.object.first + i = omega arith in get_or_push xs x 0 i (omega arith) ∙ (item (omega arith) ∙ ap (item_at v.seen.object) e));
}

pub no_end_push : (xs : List ℕ) (x : ℕ) → NoEnd xs → x ≢ 10 → NoEnd (xs ++ x ∷ [])
no_end_push xs x none ne = λ i h is. let n = length-append xs (x ∷ []) in dite (dec_lt i (length xs)) (λ y. none i y (sym (get_or_append_left xs (x ∷ []) 0 i y) ∙ is)) (λ no. let e : length xs ≡ i = omega arith in ne (sym (get_or_push xs x 0 i e) ∙ is))

pub is_line_end : (room : ℕ) (xs : List ℕ) (x : ℕ) → NoEnd xs → x ≡ 10 → IsLine room (xs ++ x ∷ [])
is_line_end room xs x none is = let n = length-append xs (x ∷ []) in
    ((λ i h e. none i (omega arith) (sym (get_or_append_left xs (x ∷ []) 0 i (omega arith)) ∙ e)), omega arith, inl (let e : length xs ≡ length (xs ++ x ∷ []) - 1 = omega arith in get_or_push xs x 0 (length (xs ++ x ∷ []) - 1) e ∙ is))

pub raised_still : (v w : View) (position i r : ℕ) → Found v i r w → 2 ≤ stage_at v.seen.object (position - v.seen.object.first) → 2 ≤ stage_at w.seen.object (position - w.seen.object.first)
raised_still v w position i r a up = let f = a.grows.first in let m = a.grows.more (position - v.seen.object.first) in let e : position - v.seen.object.first ≡ position - w.seen.object.first = omega arith in
    subst (λ (z : ℕ). 2 ≤ stage_at w.seen.object z) e (omega arith)

-- the flag and then the item of the next place were found
pub found_more : (u v w : View) (tail next x i r j : ℕ) (xs : List ℕ) → next ≡ tail + length xs → HasFound u tail xs → Found u i r v → Found v j x w → 2 ≤ stage_at v.seen.object (next - v.seen.object.first) → (tail_of w.seen.object ≤ next → x ≡ item_at w.seen.object (next - w.seen.object.first))
    → HasFound w tail (xs ++ x ∷ [])
found_more u v w tail next x i r j xs here s a b up item = found_push w tail next x xs here (found_look v w tail j x xs b (found_look u v tail i r xs a s)) (raised_still v w next j x b up) item

pub nothing_found : (v : View) (tail : ℕ) → tail ≡ tail_of v.seen.object → HasFound v tail []
nothing_found v tail at = record { first = omega arith; started = omega arith; up = λ i h. absurd (omega arith); items = λ i h. absurd (omega arith) }

-- nothing is found raised past the last position
pub found_small : (v w : View) (tail i r : ℕ) (xs : List ℕ) → Found v i r w → HasFound w tail xs → tail < 4294967296 → tail + length xs < 4294967296
found_small v w tail i r [] a h bounded = omega arith
found_small v w tail i r (x ∷ xs) a h bounded = let u = h.up (length xs) (omega arith) in let b = raised_below w.seen.object (tail - w.seen.object.first + length xs) (omega arith) in let s = (step_real v w (load i r w.seen) v.own a).shows.bounded in let f = h.first in omega arith
