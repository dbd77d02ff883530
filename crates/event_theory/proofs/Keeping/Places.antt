-- How often an element is in each of the places where it can be.
use Rattle.std.proofs.Common.{◌≡◌, ◌≢◌, ℕ, zero, suc, ◌+◌, Bool, true, false, cond, List, [], ◌∷◌, ◌++◌, ◌∙◌, length, map, take, drop, set, get_or, refl, sym, ap, arith, Option, Some, None, slice_get, ◌==◌, eqb, ◌⊎◌, inl, inr, Ok, ok_or, append-nil}
use Rattle.std.proofs.lemmas.Bool.{eqb-true}
use Rattle.std.proofs.lemmas.Bool.Decides.{eqb_tells}
use Rattle.std.proofs.lemmas.Option.{get_or_from_slice_get, slice_get_within}
use Rattle.std.proofs.lemmas.List.{take-append-drop, drop-append-le, drop-drop}
use Rattle.std.proofs.lemmas.List.Quantifiers.{position-Some}
use Rattle.std.proofs.lemmas.List.Sums.{sum_by-cons, sum_by-append, sum_by-set, sum_by-remove}
use Rattle.std.specs.Cmp.Derive.{both_true}
use Rattle.std.specs.List.{sum_by, count_by, list_all, position, remove}
use Rattle.event_theory.specs.Runs.{Run, flat}
use Rattle.event_theory.specs.Queues.{Queue, left, claim, raise, raise_of, take_first, after_claim, after_raise}
use Rattle.event_theory.specs.Elements.{Thread, hold, is_hold, let_go, let_all_go}
use Rattle.event_theory.specs.Lawful.{IsLawfulQueue}
use Rattle.event_theory.specs.Appearances.{in_list, in_cell}
use Rattle.event_theory.specs.declared.hold.Hold.{Hold}
use Rattle.event_theory.specs.declared.refusal.Refusal.TheVariants.{UnknownName, NoItems, TooLong, Full, NotOwner, NotHeld, AlreadyRaised, Closed}
use Rattle.event_theory.proofs.Lists.Histories.{both, flat-append}
use Rattle.event_theory.proofs.Lists.Inversions.{then_ok, test_ok, given_ok, some_ok}
use Rattle.event_theory.proofs.Keeping.Queues.{take_ok}

-- once, if the one element is the other
abbrev pub one : ℕ → ℕ → ℕ
one item element = cond (eqb item element) 1 0

-- how often an element is held
abbrev pub in_hands : ℕ → List Hold → ℕ
in_hands element held = count_by (λ h. h.element == element) held

-- a sum over a list after one entry changed
pub sum_changed : {X : Type 0} (f : X → ℕ) (xs : List X) (index : ℕ) (old new : X) → slice_get xs index ≡ Some old
    → sum_by f (set xs index new) + f old ≡ sum_by f xs + f new
sum_changed f xs index old new at =
    let same : get_or xs index old ≡ old = get_or_from_slice_get xs index old old at in
    ap (λ x. sum_by f (set xs index new) + f x) (sym same) ∙ sum_by-set f xs index new old (slice_get_within xs index old at)

-- a sum over mapped entries, each of which counts as the entry that it came from
pub sum_mapped : {X Y : Type 0} (f : Y → ℕ) (g : X → Y) (h : X → ℕ) → ((x : X) → f (g x) ≡ h x) → (xs : List X) → sum_by f (map g xs) ≡ sum_by h xs
sum_mapped f g h same [] = refl
sum_mapped f g h same (x ∷ xs) =
    sum_by-cons f (g x) (map g xs)
    ∙ (omega (arith, same x, sum_mapped f g h same xs)
    ∙ sym (sum_by-cons h x xs))

is_held_element : (call element : ℕ) (h : Hold) → is_hold call element h ≡ true → h.element ≡ element
is_held_element call element h is = eqb-true h.element element (both (eqb h.call call) (eqb h.element element) is).1

-- an element that is let go was held once more
pub let_go_count : (call item : ℕ) (held rest : List Hold) → let_go call item held ≡ Ok rest → (element : ℕ)
    → in_hands element rest + one item element ≡ in_hands element held
let_go_count call item held rest ok element =
    let a = then_ok (ok_or (position (is_hold call item) held) NotHeld) (λ index. Ok (remove held index)) rest ok in
    let found : position (is_hold call item) held ≡ Some a.0 = some_ok (position (is_hold call item) held) NotHeld a.0 a.1 in
    let p = position-Some (is_hold call item) held a.0 (hold call item) found in
    let same : (get_or held a.0 (hold call item)).element ≡ item = is_held_element call item (get_or held a.0 (hold call item)) p.1 in
    ap (λ xs. in_hands element xs + one item element) (sym (given_ok (remove held a.0) rest a.2))
    ∙ (ap (λ x. in_hands element (remove held a.0) + one x element) (sym same)
    ∙ sum_by-remove (λ (h : Hold). cond (eqb h.element element) 1 0) held a.0 (hold call item) p.0)

-- so were all that are let go
pub let_all_go_count : (call : ℕ) (items : List ℕ) (held rest : List Hold) → let_all_go call items held ≡ Ok rest → (element : ℕ)
    → in_hands element rest + in_list element items ≡ in_hands element held
let_all_go_count call [] held rest ok element = ap (λ xs. in_hands element xs + 0) (sym (given_ok held rest ok)) ∙ omega arith
let_all_go_count call (item ∷ items) held rest ok element =
    let a = then_ok (let_go call item held) (let_all_go call items) rest ok in
    omega (
      arith,
      let_go_count call item held a.0 a.1 element,
      let_all_go_count call items a.0 rest a.2 element,
      sum_by-cons (λ x. cond (eqb x element) 1 0) item items,
    )

-- a claim leaves its items after those that were left
pub claim_left : (longest call : ℕ) (items : List ℕ) (q r : Queue) → IsLawfulQueue q → claim longest call items q ≡ Ok r → left r ≡ left q ++ items
claim_left longest call items q r lawful ok =
    let a = test_ok (eqb (length items) 0) NoItems _ r ok in
    let b = test_ok _ TooLong _ r a.1 in
    let c = test_ok q.shut Closed _ r b.1 in
    let d = test_ok _ Full _ r c.1 in
    let run : Run = record { call = call; items = items } in
    let joined : flat (q.history ++ run ∷ []) ≡ flat q.history ++ items =
    flat-append q.history (run ∷ []) ∙ ap (λ xs. flat q.history ++ xs) (append-nil items) in
    ap left (sym (given_ok (after_claim call items q) r d.1))
    ∙ (ap (drop q.taken) joined ∙ drop-append-le q.taken (flat q.history) items lawful.taken_within)

raised_left : (call run index : ℕ) (q r : Queue) (claimed : Option Run) → raise_of call run index q claimed ≡ Ok r → left r ≡ left q
raised_left call run index q r None ok = absurd (cc)
raised_left call run index q r (Some e) ok =
    let a = test_ok _ UnknownName _ r ok in
    let b = test_ok _ NotOwner _ r a.1 in
    let c = test_ok (q.raised run index) AlreadyRaised _ r b.1 in
    ap left (sym (given_ok (after_raise run index q) r c.1))

-- a raise leaves what was left
pub raise_left : (call run index : ℕ) (q r : Queue) → raise call run index q ≡ Ok r → left r ≡ left q
raise_left call run index q r ok = raised_left call run index q r (slice_get q.history run) ok

-- what was left is what a taking takes, and what it leaves
pub take_left : (longest count : ℕ) (q r : Queue) → take_first longest count q ≡ Ok r → take count (left q) ++ left r ≡ left q
take_left longest count q r ok =
    let h = take_ok longest count q r ok in
    ap (λ x. take count (left q) ++ left x) h.0
    ∙ (ap (λ xs. take count (left q) ++ xs) (sym (drop-drop count q.taken (flat q.history)))
    ∙ take-append-drop count (left q))

pub in_joined : (element : ℕ) (xs ys : List ℕ) → in_list element (xs ++ ys) ≡ in_list element xs + in_list element ys
in_joined element xs ys = sum_by-append (λ x. cond (eqb x element) 1 0) xs ys

pub in_hands_joined : (element : ℕ) (held more : List Hold) → in_hands element (held ++ more) ≡ in_hands element held + in_hands element more
in_hands_joined element held more = sum_by-append (λ (h : Hold). cond (eqb h.element element) 1 0) held more

-- what a call takes is in its hands
pub in_hands_taken : (call element : ℕ) (items : List ℕ) → in_hands element (map (hold call) items) ≡ in_list element items
in_hands_taken call element items = sum_mapped (λ (h : Hold). cond (eqb h.element element) 1 0) (hold call) (λ x. cond (eqb x element) 1 0) (λ x. refl) items

pub slice_get_set_same : {X : Type 0} (xs : List X) (index : ℕ) (old new : X) → slice_get xs index ≡ Some old → slice_get (set xs index new) index ≡ Some new
slice_get_set_same [] index old new at = absurd (cc)
slice_get_set_same (x ∷ xs) zero old new at = refl
slice_get_set_same (x ∷ xs) (suc index) old new at = slice_get_set_same xs index old new at

pub slice_get_set_other : {X : Type 0} (xs : List X) (index other : ℕ) (new : X) → index ≢ other → slice_get (set xs index new) other ≡ slice_get xs other
slice_get_set_other [] index other new differ = refl
slice_get_set_other (x ∷ xs) zero zero new differ = absurd (differ refl)
slice_get_set_other (x ∷ xs) zero (suc other) new differ = refl
slice_get_set_other (x ∷ xs) (suc index) zero new differ = refl
slice_get_set_other (x ∷ xs) (suc index) (suc other) new differ = slice_get_set_other xs index other new (λ e. differ (ap suc e))

cell_by : (threads : List Thread) (index : ℕ) (old new : Thread) (element : ℕ) → slice_get threads index ≡ Some old
    → ((eqb index element ≡ true) × (index ≡ element)) ⊎ ((eqb index element ≡ false) × (index ≢ element))
    → in_cell (slice_get (set threads index new) element) + cond (eqb index element) (in_cell (Some old)) 0
    ≡ in_cell (slice_get threads element) + cond (eqb index element) (in_cell (Some new)) 0
cell_by threads index old new element at (inl same) =
    let a : in_cell (slice_get (set threads index new) element) ≡ in_cell (Some new) =
    ap in_cell (ap (slice_get (set threads index new)) (sym same.1) ∙ slice_get_set_same threads index old new at) in
    let b : in_cell (slice_get threads element) ≡ in_cell (Some old) = ap in_cell (ap (slice_get threads) (sym same.1) ∙ at) in
    rw same.0 (omega (arith, a, b))
cell_by threads index old new element at (inr differ) =
    rw differ.0 (ap (λ x. in_cell x + 0) (slice_get_set_other threads index element new differ.1))

-- how often an element is in its stop cell after one thread changed
pub cell_changed : (threads : List Thread) (index : ℕ) (old new : Thread) (element : ℕ) → slice_get threads index ≡ Some old
    → in_cell (slice_get (set threads index new) element) + cond (eqb index element) (in_cell (Some old)) 0
    ≡ in_cell (slice_get threads element) + cond (eqb index element) (in_cell (Some new)) 0
cell_changed threads index old new element at = cell_by threads index old new element at (eqb_tells index element)

some_same : {X : Type 0} (x y : X) → ◌≡◌ {A = Option X} (Some x) (Some y) → x ≡ y
some_same x y h = cc

-- a test that all entries pass is passed by the one at an index
pub passes_at : {X : Type 0} (p : X → Bool) (xs : List X) (index : ℕ) (x : X) → slice_get xs index ≡ Some x → list_all p xs ≡ true → p x ≡ true
passes_at p [] index x at all = absurd (cc)
passes_at p (y ∷ xs) zero x at all = ap p (sym (some_same y x at)) ∙ (both (p y) (list_all p xs) all).0
passes_at p (y ∷ xs) (suc index) x at all = passes_at p xs index x at (both (p y) (list_all p xs) all).1

-- and by all entries still, if one that passes it takes the place of another
pub passes_set : {X : Type 0} (p : X → Bool) (xs : List X) (index : ℕ) (x : X) → p x ≡ true → list_all p xs ≡ true → list_all p (set xs index x) ≡ true
passes_set p [] index x passes all = refl
passes_set p (y ∷ xs) zero x passes all = both_true passes (both (p y) (list_all p xs) all).1
passes_set p (y ∷ xs) (suc index) x passes all =
    let h = both (p y) (list_all p xs) all in
    both_true h.0 (passes_set p xs index x passes h.1)
