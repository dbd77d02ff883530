-- There is room for an element that is held in each element queue, and what calls hold after it was let go.
use Rattle.thread_table.proofs.Common.{◌≡◌, ℕ, zero, suc, ◌+◌, ◌<◌, ◌≤◌, Bool, true, false, cond, ◌&&◌, ◌||◌, List, [], ◌∷◌, ◌∙◌, length, remove, position, get_or, refl, sym, ap, ap₂, subst, arith, Some, slice_get, eqb, ◌⊎◌, inl, inr, Ok, eqb-true, cases_lt, get_or_from_slice_get, slice_get_within, position-Some, sum_by-cons, get_or-le-sum_by, list_any, sum_by, position_or_len, Queue, left, Elements, hold, is_hold, let_go, IsLawfulElements, appearances, in_list, Hold, one, in_hands, let_go_count}
use Rattle.std.proofs.lemmas.Bool.{lt-ltb}
use Rattle.event_theory.proofs.Lists.Histories.{both}
use Rattle.event_theory.proofs.Keeping.Rooms.{in_more, itself, few}

-- an element is in one ring no more often than in all
in_one : (element ring : ℕ) (e : Elements) (q : Queue) → slice_get e.rings ring ≡ Some q → in_list element (left q) ≤ sum_by (λ l. in_list element (left l)) e.rings
in_one element ring e q at =
    let same : get_or e.rings ring q ≡ q = get_or_from_slice_get e.rings ring q q at in
    let below = get_or-le-sum_by (λ l. in_list element (left l)) e.rings ring q (slice_get_within e.rings ring q at) in
    subst (λ l. in_list element (left l) ≤ sum_by (λ l. in_list element (left l)) e.rings) same below

-- a held element and what is left in a ring: each of them at most once, and only elements that there are
once_by : (call element ring k : ℕ) (e : Elements) (q : Queue) (rest : List Hold) → IsLawfulElements e → slice_get e.rings ring ≡ Some q → let_go call element e.held ≡ Ok rest
    → in_list k (element ∷ left q) ≤ appearances k e
once_by call element ring k e q rest lawful at lets =
    omega (arith, in_more k element (left q), let_go_count call element e.held rest lets k, in_one k ring e q at)

once_at : (k n m : ℕ) → (k < n → m ≡ 1) → (n ≤ k → m ≡ 0) → (k < n) ⊎ (n ≤ k) → m ≤ 1
once_at k n m known strange (inl below) = omega (arith, known below)
once_at k n m known strange (inr past) = omega (arith, strange past)

-- where a call holds an element, a ring has fewer than all of them
pub room : (call element ring : ℕ) (e : Elements) (q : Queue) (rest : List Hold) → IsLawfulElements e → slice_get e.rings ring ≡ Some q → let_go call element e.held ≡ Ok rest
    → length (left q) + 1 ≤ length e.threads
room call element ring e q rest lawful at lets =
    let within : (k : ℕ) → in_list k (element ∷ left q) ≤ appearances k e = λ k. once_by call element ring k e q rest lawful at lets in
    let all = few (length e.threads) (element ∷ left q)
    (λ k. omega (arith, within k, once_at k (length e.threads) (appearances k e) (lawful.once k) (lawful.known k) (cases_lt k (length e.threads))))
    (λ k past. omega (arith, within k, lawful.known k past)) in
    omega (arith, all)

-- an element that was let go is in nobody's hands
pub out_of_hands : (call element : ℕ) (e : Elements) (rest : List Hold) → IsLawfulElements e → element < length e.threads → let_go call element e.held ≡ Ok rest → in_hands element rest ≡ 0
out_of_hands call element e rest lawful below lets =
    let once : appearances element e ≡ 1 = lawful.once element below in
    omega (arith, once, itself element, let_go_count call element e.held rest lets element)

and_no : (a b : Bool) → b ≡ false → (a && b) ≡ false
and_no true b fails = fails
and_no false b fails = refl

hand_by : (element : ℕ) (h : Hold) (n : ℕ) (b : Bool) → eqb h.element element ≡ b → one h.element element + n ≡ 0 → (b ≡ false) × (n ≡ 0)
hand_by element h n true is none = absurd (omega (arith, none, ap {B = ℕ} (λ t. cond t 1 0) is))
hand_by element h n false is none = (refl, omega (arith, none, ap {B = ℕ} (λ t. cond t 1 0) is))

-- what is in nobody's hands no call holds
pub unheld : (call element : ℕ) (held : List Hold) → in_hands element held ≡ 0 → list_any (is_hold call element) held ≡ false
unheld call element [] none = refl
unheld call element (h ∷ held) none =
    let parts = hand_by element h (in_hands element held) (eqb h.element element) refl (sym (sum_by-cons (λ (g : Hold). one g.element element) h held) ∙ none) in
    ap₂ (λ a b. a || b) (and_no (eqb h.call call) (eqb h.element element) parts.0) (unheld call element held parts.1)

-- a list without an entry that fails a test has one that passes where it had one
pub any-remove : {X : Type 0} (p : X → Bool) (xs : List X) (index : ℕ) (d : X) → index < length xs → p (get_or xs index d) ≡ false → list_any p (remove xs index) ≡ list_any p xs
any-remove p [] index d below fails = absurd (omega arith)
any-remove p (x ∷ xs) zero d below fails = ap (λ b. b || list_any p xs) (sym fails)
any-remove p (x ∷ xs) (suc index) d below fails = ap (λ b. p x || b) (any-remove p xs index d (omega arith) fails)

place_by : {X : Type 0} (p : X → Bool) (x : X) (xs : List X) (b : Bool) → p x ≡ b → (b || list_any p xs) ≡ true → (list_any p xs ≡ true → position_or_len p xs < length xs)
    → position_or_len p (x ∷ xs) < length (x ∷ xs)
place_by p x xs true is any later = rw is (omega arith)
place_by p x xs false is any later = let l = later any in rw is (omega arith)

place_within : {X : Type 0} (p : X → Bool) (xs : List X) → list_any p xs ≡ true → position_or_len p xs < length xs
place_within p [] any = absurd (cc)
place_within p (x ∷ xs) any = place_by p x xs (p x) refl any (place_within p xs)

-- where an entry passes, the first that does has a place
pub found : {X : Type 0} (p : X → Bool) (xs : List X) → list_any p xs ≡ true → position p xs ≡ Some (position_or_len p xs)
found p xs any = rw (lt-ltb (position_or_len p xs) (length xs) (place_within p xs any)) refl

hold_of : (call element : ℕ) (h : Hold) → is_hold call element h ≡ true → h ≡ hold call element
hold_of call element h is =
    let parts = both (eqb h.call call) (eqb h.element element) is in
    ap₂ (λ (c x : ℕ). let g : Hold = hold c x in g) (eqb-true h.call call parts.0) (eqb-true h.element element parts.1)

-- a call that holds an element can let it go, and what else is held stays so
pub let_go_goes : (call element : ℕ) (held : List Hold) → list_any (is_hold call element) held ≡ true
    → (rest : List Hold) × (let_go call element held ≡ Ok rest) × ((c x : ℕ) → is_hold c x (hold call element) ≡ false → list_any (is_hold c x) rest ≡ list_any (is_hold c x) held)
let_go_goes call element held any =
    let index : ℕ = position_or_len (is_hold call element) held in
    let at : position (is_hold call element) held ≡ Some index = found (is_hold call element) held any in
    let p = position-Some (is_hold call element) held index (hold call element) at in
    let is : get_or held index (hold call element) ≡ hold call element = hold_of call element (get_or held index (hold call element)) p.1 in
    (remove held index, rw at refl, λ c x other. any-remove (is_hold c x) held index (hold call element) p.0 (ap (is_hold c x) is ∙ other))
