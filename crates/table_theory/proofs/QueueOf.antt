-- The queue that positions are is lawful, and each step on the positions is an event of it or none.
use Rattle.table_theory.proofs.Common.{◌≡◌, ℕ, zero, suc, ◌+◌, ◌-◌, ◌<◌, ◌≤◌, Bool, true, false, List, [], ◌∷◌, ◌++◌, ◌∙◌, map, length, take, drop, get_or, refl, sym, ap, ap₂, arith, slice_get, length-map, map-append, take-map, length-drop, le-leb, list_all, some, get_elem?, Cell, Batch, Positions, flat, pairs, left, is_raised, blank, item_of, Lawful, Owned, all_places, run_in, is_published, published_in, queue_of, IsHistory}
use Rattle.std.proofs.Common.{zero-add, add-zero}
use Rattle.std.proofs.lemmas.List.{drop-map}
use Rattle.std.proofs.lemmas.List.Folds.{list_all-map}
use Rattle.std.proofs.lemmas.Bool.{leb-true}
use Rattle.event_theory.specs.Runs.{pairs_of, pairs_from, run_length}
use Rattle.event_theory.specs.Lawful.{IsLawfulQueue}
use Rattle.table_theory.specs.Positioned.{left_of}
use Rattle.table_theory.proofs.Positioned.{raised_below}

abbrev pub Log : Type 0
Log = List (Owned Batch)

-- the items of the history are those of the places
pub flat_of : (runs : Log) → flat (map run_in runs) ≡ map item_of (all_places runs)
flat_of [] = refl
flat_of (o ∷ os) = ap (λ (z : List ℕ). map item_of o.2.places ++ z) (flat_of os) ∙ sym (map-append item_of o.2.places (all_places os))

up_of_run : (f : ℕ → ℕ → Bool) (number index : ℕ) (es : List Cell) → ((i : ℕ) → f number (index + i) ≡ is_published (get_or es i blank)) → map (λ (p : ℕ × ℕ). f p.0 p.1) (pairs_of number index (map item_of es)) ≡ map is_published es
up_of_run f number index [] h = refl
up_of_run f number index (e ∷ es) h =
    ap₂ (λ (a : Bool) (b : List Bool). a ∷ b) (ap (f number) (sym (add-zero index)) ∙ h 0)
    (up_of_run f number (index + 1) es (λ i. let e : index + 1 + i ≡ index + suc i = omega arith in ap (f number) e ∙ h (suc i)))

up_from : (f : ℕ → ℕ → Bool) (number : ℕ) (runs : Log) → ((r i : ℕ) → f (number + r) i ≡ published_in (slice_get runs r) i) → map (λ (p : ℕ × ℕ). f p.0 p.1) (pairs_from number (map run_in runs)) ≡ map is_published (all_places runs)
up_from f number [] h = refl
up_from f number (o ∷ os) h =
    map-append (λ (p : ℕ × ℕ). f p.0 p.1) (pairs_of number 0 (map item_of o.2.places)) (pairs_from (number + 1) (map run_in os))
    ∙ (ap₂ (λ (a b : List Bool). a ++ b)
    (up_of_run f number 0 o.2.places (λ i. ap₂ f (sym (add-zero number)) (zero-add i) ∙ h 0 i))
    (up_from f (number + 1) os (λ r i. let e : number + 1 + r ≡ number + suc r = omega arith in ap (λ (n : ℕ). f n i) e ∙ h (suc r) i))
    ∙ sym (map-append is_published o.2.places (all_places os)))

-- the raised pairs of the history are the raised places
pub up_of : (q : Positions) (runs : Log) → map (is_raised (queue_of q runs)) (pairs (map run_in runs)) ≡ map is_published (all_places runs)
up_of q runs = up_from (queue_of q runs).raised 0 runs (λ r i. ap (λ (n : ℕ). published_in (slice_get runs n) i) (zero-add r))

-- the first n places are raised
pub all_up : (n : ℕ) (l : List Cell) → ((i : ℕ) → i < n → 2 ≤ (get_or l i blank).stage) → list_all is_published (take n l) ≡ true
all_up zero l h = refl
all_up (suc n) [] h = refl
all_up (suc n) (e ∷ es) h = rw (le-leb 2 e.stage (h 0 (omega arith)), all_up n es (λ i b. h (suc i) (omega arith))) refl

pub list_all_mapped : {X : Type 0} (f : X → Bool) (ps : List X) (es : List Cell) (n m : ℕ) → map f ps ≡ map is_published es → list_all f (take n (drop m ps)) ≡ list_all is_published (take n (drop m es))
list_all_mapped f ps es n m e =
    sym (list_all-map (λ (b : Bool). b) f (take n (drop m ps)))
    ∙ (ap (list_all (λ (b : Bool). b))
    (sym (take-map f n (drop m ps)) ∙ (ap (take n) (sym (drop-map f m ps) ∙ (ap (drop m) e ∙ drop-map is_published m es)) ∙ take-map is_published n (drop m es)))
    ∙ list_all-map (λ (b : Bool). b) is_published (take n (drop m es)))

solid_of : (runs : Log) → ((k : ℕ) (o : Owned Batch) → get_elem? runs k ≡ some o → 0 < length o.2.places) → (run : ℕ) → run < length (map run_in runs) → 0 < run_length (map run_in runs) run
solid_of [] h run below = absurd (omega arith)
solid_of (o ∷ os) h zero below = let n = length-map o.2.places item_of in let s = h 0 o refl in omega arith
solid_of (o ∷ os) h (suc run) below = solid_of os (λ k x at. h (suc k) x at) run (omega arith)

pub up_below : (l : List Cell) (i : ℕ) → is_published (get_or l i blank) ≡ true → i < length l
up_below l i h = raised_below (record { first = 0; room = 0; places = l; taken = 0; shut = false }) i (let a = leb-true 2 (get_or l i blank).stage h in omega arith)

pub within_of : (runs : Log) (run index : ℕ) → published_in (slice_get runs run) index ≡ true → index < run_length (map run_in runs) run
within_of [] run index h = absurd (cc)
within_of (o ∷ os) zero index h = let n = length-map o.2.places item_of in let b = up_below o.2.places index h in omega arith
within_of (o ∷ os) (suc run) index h = within_of os run index h

-- if the runs have these places, in order, the history has their items
pub items_are : (q : Positions) (runs : Log) → all_places runs ≡ q.places → flat (map run_in runs) ≡ map item_of q.places
items_are q runs e = flat_of runs ∙ ap (map item_of) e

-- the items left
pub left_is : (q : Positions) (runs : Log) → all_places runs ≡ q.places → left (queue_of q runs) ≡ left_of q
left_is q runs e = ap (drop q.taken) (items_are q runs e) ∙ drop-map item_of q.taken q.places

pub long_is : (q : Positions) (runs : Log) → all_places runs ≡ q.places → length (flat (map run_in runs)) ≡ length q.places
long_is q runs e = ap length (items_are q runs e) ∙ length-map q.places item_of

pub left_long : (q : Positions) (runs : Log) → all_places runs ≡ q.places → length (left (queue_of q runs)) ≡ length q.places - q.taken
left_long q runs e = ap length (left_is q runs e) ∙ (length-map (drop q.taken q.places) item_of ∙ length-drop q.taken q.places)

pub is_lawful_queue : (q : Positions) (runs : Log) → Lawful q → IsHistory q runs → IsLawfulQueue (queue_of q runs)
is_lawful_queue q runs l h = let n = long_is q runs h.places in let m = left_long q runs h.places in let following = l.taken_within in let within = l.within in record {
  solid = solid_of runs h.solid;
  within = within_of runs;
  taken_within = omega arith;
  ready = list_all_mapped (is_raised (queue_of q runs)) (pairs (map run_in runs)) q.places q.taken 0 (up_of q runs ∙ ap (map is_published) h.places) ∙ all_up q.taken q.places l.ready;
  fits = omega arith;
}
