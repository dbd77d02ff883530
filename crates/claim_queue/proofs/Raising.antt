-- The two stores of a raise, and the claim after them.
use Rattle.claim_queue.proofs.Common.{◌≡◌, ◌≢◌, ℕ, zero, suc, ◌+◌, ◌<◌, Bool, true, false, eqb, List, [], ◌∷◌, ◌++◌, map, length, get_or, set, sym, refl, ap, ◌∙◌, subst, arith, get_or-set_same, length-map, if◌then◌else◌, some, get_elem?, Cell, Batch, blank, fresh, item_of, Distinct, number_of, with_stage, made_then, set_here, set_else, at_longer, at_last, at_below, IsPlace, data_word, flag_word, QueueOps, View, run, with_changed, Claimed, Raised, places_of, run_of, Owns, KeepsClaims, KeepsOthers}
use Rattle.std.proofs.lemmas.List.{set-set}
use mathlib.Core.Option.{some-injective, some-ne-none}
use Rattle.table_theory.proofs.Owned.{at_after}
use Rattle.table_theory.proofs.Listing.{found_by_start}
use Rattle.claim_queue.specs.Steps.{WroteAt}
use Rattle.claim_queue.proofs.Reading.{distinct_runs}

-- a place that is raised
abbrev raised_place : ℕ → Cell
raised_place x = record { item = x; stage = 2 }

pub number_set : (start : ℕ) (l : List Batch) (m : ℕ) (e f : Batch) → get_elem? l m ≡ some e → f.start ≡ e.start → number_of start (set l m f) ≡ number_of start l
number_set start [] m e f has is = refl
number_set start (x ∷ xs) zero e f has is = let same : f.start ≡ x.start = is ∙ sym (ap (λ (z : Batch). z.start) (some-injective x e has)) in ap (λ (z : ℕ). if eqb z start then 0 else suc (number_of start xs)) same
number_set start (x ∷ xs) (suc m) e f has is = ap (λ (z : ℕ). if eqb x.start start then 0 else suc z) (number_set start xs m e f has is)

pub run_items : (xs : List ℕ) (r : ℕ) → map item_of (places_of xs r) ≡ xs
run_items [] r = refl
run_items (x ∷ xs) zero = ap (λ (z : List ℕ). x ∷ z) (run_items xs zero)
run_items (x ∷ xs) (suc r) = ap (λ (z : List ℕ). x ∷ z) (run_items xs r)

pub places_length : (xs : List ℕ) (r : ℕ) → length (places_of xs r) ≡ length xs
places_length xs r = sym (length-map (places_of xs r) item_of) ∙ ap length (run_items xs r)

pub next_place : (xs : List ℕ) (r : ℕ) → r < length xs → get_or (places_of xs r) r blank ≡ fresh (get_or xs r 0)
next_place [] r h = absurd (omega arith)
next_place (x ∷ xs) zero h = refl
next_place (x ∷ xs) (suc r) h = next_place xs r (omega arith)

pub next_raised : (xs : List ℕ) (r : ℕ) → r < length xs → set (places_of xs r) r (raised_place (get_or xs r 0)) ≡ places_of xs (suc r)
next_raised [] r h = absurd (omega arith)
next_raised (x ∷ xs) zero h = refl
next_raised (x ∷ xs) (suc r) h = ap (λ (z : List Cell). raised_place x ∷ z) (next_raised xs r (omega arith))

pub first_places : (xs : List ℕ) → places_of xs 0 ≡ map fresh xs
first_places [] = refl
first_places (x ∷ xs) = ap (λ (z : List Cell). fresh x ∷ z) (first_places xs)

pub next_run : (start : ℕ) (xs : List ℕ) (r : ℕ) → r < length xs → with_stage (run_of start xs r) r 2 ≡ run_of start xs (suc r)
next_run start xs r h = ap (λ (z : List Cell). record { start = start; places = z }) (ap (λ (z : Cell). set (places_of xs r) r (record { item = z.item; stage = 2 })) (next_place xs r h) ∙ next_raised xs r h)

twice : (e : Batch) (i : ℕ) → i < length e.places → with_stage (with_stage e i 1) i 2 ≡ with_stage e i 2
twice e i h = let x : Cell = record { item = (get_or e.places i blank).item; stage = 1 } in
    λ k. record { start = e.start; places = (ap (λ (z : Cell). set (set e.places i x) i (record { item = z.item; stage = 2 })) (get_or-set_same e.places i x blank h) ∙ set-set e.places i x (record { item = (get_or e.places i blank).item; stage = 2 })) k }

-- a run of the end, which is then another of the same start
pub own_changed : (v w : View) (e f : Batch) → get_elem? v.own.runs (number_of e.start v.own.runs) ≡ some e → f.start ≡ e.start → w.own ≡ with_changed v.own f → get_elem? w.own.runs (number_of e.start w.own.runs) ≡ some f
own_changed v w e f has is did = let m : ℕ = number_of e.start v.own.runs in let same : number_of f.start v.own.runs ≡ m = ap (λ (z : ℕ). number_of z v.own.runs) is in
    let runs : w.own.runs ≡ set v.own.runs m f = (λ k. (did k).runs) ∙ ap (λ (z : ℕ). set v.own.runs z f) same in
    (λ k. get_elem? (runs k) (number_of e.start (runs k))) ∙ (ap (get_elem? (set v.own.runs m f)) (number_set e.start v.own.runs m e f has is) ∙ set_here v.own.runs m f (at_below v.own.runs m e has))

-- changed twice
pub changed_twice : (d : QueueOps) (e f g : Batch) → get_elem? d.runs (number_of e.start d.runs) ≡ some e → f.start ≡ e.start → g.start ≡ e.start → with_changed (with_changed d f) g ≡ with_changed d g
changed_twice d e f g has one two = let m : ℕ = number_of e.start d.runs in let at : number_of f.start d.runs ≡ m = ap (λ (z : ℕ). number_of z d.runs) one in let at' : number_of g.start d.runs ≡ m = ap (λ (z : ℕ). number_of z d.runs) two in
    let number : number_of g.start (set d.runs (number_of f.start d.runs) f) ≡ m = (λ k. number_of (two k) (set d.runs (at k) f)) ∙ number_set e.start d.runs m e f has one in
    (λ k. record d { runs = set (set d.runs (at k) f) (number k) g }) ∙ (λ k. record d { runs = set-set d.runs m f g k }) ∙ (λ k. record d { runs = set d.runs (sym at' k) g })

-- both stores together
pub raised_on : (room : ℕ) (u v w : View) (start r : ℕ) (xs : List ℕ) → Owns u start xs r → r < length xs → WroteAt start r 1 (data_word room (start + r)) u v → WroteAt start r 2 (flag_word room (start + r)) v w → Raised room u start xs r w
raised_on room u v w start r xs own below one two = let e : Batch = run_of start xs r in let f : Batch = with_stage e r 1 in let g : Batch = with_stage f r 2 in let long = places_length xs r in let there : r < length e.places = omega arith in
    let a = one e own refl in let b = two f (own_changed u v e f own refl a.3.made.did) refl in let made = made_then u v w _ _ _ (λ d. with_changed d g) a.3.made b.3.made in let next : g ≡ run_of start xs (r + 1) = twice e r there ∙ (next_run start xs r below ∙ ap (run_of start xs) (let n : suc r ≡ r + 1 = omega arith in n)) in (
      record { found_data = a.0; at_data = a.1; found_flag = b.0; at_flag = b.1 },
      record {
        was_claimed = subst (IsPlace a.1.object (start + r)) (next_place xs r below) a.2;
        was_stored = subst (IsPlace b.1.object (start + r)) (get_or-set_same e.places r (record { item = (get_or e.places r blank).item; stage = 1 }) blank there ∙ (λ k. record { item = (next_place xs r below k).item; stage = 1 })) b.2;
      },
      record { adds = made.adds; did = made.did ∙ (changed_twice u.own e f g own refl refl ∙ ap (with_changed u.own) next); member = made.member },
    )

pub own_after : (room : ℕ) (u w : View) (start r : ℕ) (xs : List ℕ) → Owns u start xs r → Raised room u start xs r w → Owns w start xs (r + 1)
own_after room u w start r xs own h = own_changed u w (run_of start xs r) (run_of start xs (r + 1)) own refl h.2.did

-- a claim that was just made is the end's own
pub owns_claimed : (v w : View) (head : ℕ) (xs : List ℕ) → Claimed v head xs w → Owns w head xs 0
owns_claimed v w head xs h = let runs : w.own.runs ≡ v.own.runs ++ run head xs ∷ [] = (λ k. (h.2.made.did k).runs) in
    let last : get_elem? w.own.runs (length v.own.runs) ≡ some (run head xs) = subst (λ (z : List Batch). get_elem? z (length v.own.runs) ≡ some (run head xs)) (sym runs) (at_last v.own.runs (run head xs) (length v.own.runs) refl) in
    let number = found_by_start w.own.runs (length v.own.runs) (run head xs) (distinct_runs w h.2.ruled) last in
    subst (λ (z : ℕ). get_elem? w.own.runs z ≡ some (run_of head xs 0)) (sym number) (last ∙ ap some (sym (ap (λ (z : List Cell). record { start = head; places = z }) (first_places xs))))

-- the end's other claims stay as they are

if_suc : (b : Bool) (n m : ℕ) → (b ≡ false → n ≡ m) → (if b then 0 else suc n) ≡ (if b then 0 else suc m)
if_suc true n m h = refl
if_suc false n m h = ap suc (h refl)

number_more : (start : ℕ) (l r : List Batch) (e : Batch) → get_elem? l (number_of start l) ≡ some e → number_of start (l ++ r) ≡ number_of start l
number_more start [] r e has = absurd (some-ne-none e (sym has))
number_more start (x ∷ xs) r e has = if_suc (eqb x.start start) (number_of start (xs ++ r)) (number_of start xs)
    (λ is. number_more start xs r e (subst (λ (b : Bool). get_elem? (x ∷ xs) (if b then 0 else suc (number_of start xs)) ≡ some e) is has))

-- a run that is appended to the others changes no number
pub owns_more : (v w : View) (r : List Batch) → w.own.runs ≡ v.own.runs ++ r → KeepsClaims v w
owns_more v w r runs start xs n own = let e : Batch = run_of start xs n in
    subst (λ (z : List Batch). get_elem? z (number_of start z) ≡ some e) (sym runs)
    (subst (λ (z : ℕ). get_elem? (v.own.runs ++ r) z ≡ some e) (sym (number_more start v.own.runs r e own)) (at_longer v.own.runs r (number_of start v.own.runs) e own))

-- the other end's runs are appended to this end's runs
pub owns_after : (u w : View) (l : List Batch) → w.own.runs ≡ l ++ u.own.runs → Distinct w.own.runs → KeepsClaims u w
owns_after u w l runs distinct start xs n own = let e : Batch = run_of start xs n in let k : ℕ = number_of start u.own.runs in
    let at : get_elem? w.own.runs (length l + k) ≡ some e = subst (λ (z : List Batch). get_elem? z (length l + k) ≡ some e) (sym runs) (at_after l u.own.runs k e own) in
    subst (λ (z : ℕ). get_elem? w.own.runs z ≡ some e) (sym (found_by_start w.own.runs (length l + k) e distinct at)) at

-- a raise in one run leaves the others
pub others_raised : (room : ℕ) (v w : View) (start r : ℕ) (ys : List ℕ) → Owns v start ys r → Raised room v start ys r w → KeepsOthers start v w
others_raised room v w start r ys own h other xs n ne mine = let m : ℕ = number_of start v.own.runs in let k : ℕ = number_of other v.own.runs in let f : Batch = run_of start ys (r + 1) in let e : Batch = run_of other xs n in
    let apart : k ≢ m = (λ z. ne (ap (λ (y : Batch). y.start) (some-injective e (run_of start ys r) (sym mine ∙ (ap (get_elem? v.own.runs) z ∙ own))))) in
    subst (λ (z : List Batch). get_elem? z (number_of other z) ≡ some e) (λ i. (sym h.2.did i).runs)
    (subst (λ (z : ℕ). get_elem? (set v.own.runs m f) z ≡ some e) (sym (number_set other v.own.runs m (run_of start ys r) f own refl)) (set_else v.own.runs m k f apart ∙ mine))

pub others_on : (start : ℕ) (u v w : View) → KeepsOthers start u v → KeepsOthers start v w → KeepsOthers start u w
others_on start u v w a b other xs r ne own = b other xs r ne (a other xs r ne own)
