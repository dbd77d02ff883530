-- When an event of an element queue is allowed, and what it then makes of the elements.
use Rattle.quaject_core.proofs.Common.{◌≡◌, ℕ, ◌+◌, ◌<◌, ◌≤◌, Bool, true, false, cond, List, [], ◌∷◌, ◌∙◌, map, length, take, set, get_or, remove, position, refl, sym, ap, ap₂, subst, arith, Option, Some, None, slice_get, ok_or, eqb, ltb, leb, Result, Ok, Err, IsOk, IsErrAnd, MatchResult, list_any, eqb-false, ne_eqb, lt-ltb, le-ltb, leb-true, nat_tests, Queue, left, claim, after_claim, take_first, Elements, Thread, is_hold, let_all_go, claim_element, queue_status, ◌>>=◌, at, change_at, IsWhy, Hold, Refusal, NoItems, TooLong, Full, NotRaised, NotHeld, Closed, Moved, queue, elements, thread, wait_at, StoredElements, StoredQueue, QueueStatus, take_ok, both}
use Rattle.event_theory.specs.Rings.{first_hold, taken}
use Rattle.event_theory.proofs.Lists.Inversions.{change_ok, test_ok}
use Rattle.event_theory.proofs.Lists.Placed.{there as is_there}
use Rattle.quaject_core.proofs.Stored.Elements.{shown_at}
use Rattle.quaject_core.proofs.Stored.Lifts.{why_given, ok_of, at_there}

-- a claim of one element is a run of one
pub one_item : (call : ℕ) (items : List ℕ) (q r : Queue) → claim 1 call items q ≡ Ok r → length items ≡ 1
one_item call items q r ok =
    let a = test_ok (eqb (length items) 0) NoItems _ r ok in
    let b = test_ok (ltb 1 (length items)) TooLong _ r a.1 in
    let none : eqb (length items) 0 ≡ false = a.0 in
    let short : ltb 1 (length items) ≡ false = b.0 in
    grind (arith, nat_tests)

pub claim_one : (ring call : ℕ) (items : List ℕ) (rings r : List Queue) → change_at ring (claim 1 call items) rings ≡ Ok r → length items ≡ 1
claim_one ring call items rings r ok =
    let h = change_ok ring (claim 1 call items) rings r ok in one_item call items h.0 h.1 h.3

-- a claim in a stored queue comes to what its tests say
pub claim_tested : (ring call : ℕ) (items : List ℕ) (rings : List StoredQueue) (stored : StoredQueue) (none long shut full : Bool) → ring < length rings → stored ≡ get_or rings ring stored
    → eqb (length items) 0 ≡ none → ltb 1 (length items) ≡ long → stored.shut ≡ shut → ltb stored.capacity (length (left (queue stored)) + length items) ≡ full
    → change_at ring (claim 1 call items) (map queue rings)
    ≡ (cond none (Err NoItems) (cond long (Err TooLong) (cond shut (Err Closed) (cond full (Err Full) (Ok (after_claim call items (queue stored)))))) >>= λ new. Ok (set (map queue rings) ring new))
claim_tested ring call items rings stored none long shut full within is no_items too_long closed no_room =
    rw (at_there queue rings ring stored within is, no_items, too_long, closed, no_room) refl

-- the test for room, by the numbers of the queue
pub no_room : (q : Queue) (status : QueueStatus) (capacity : ℕ) (items : List ℕ) → status ≡ queue_status q → capacity ≡ status.capacity → eqb (length items) 0 ≡ false → capacity ≤ status.left
    → ltb q.capacity (length (left q) + length items) ≡ true
no_room q status capacity items is same some past =
    lt-ltb q.capacity (length (left q) + length items) (omega (arith, ap (λ s. s.capacity) is, ap (λ s. s.left) is, same, eqb-false (length items) 0 some, past))

pub some_room : (q : Queue) (status : QueueStatus) (capacity : ℕ) (items : List ℕ) → status ≡ queue_status q → capacity ≡ status.capacity → length items ≤ 1 → status.left < capacity
    → ltb q.capacity (length (left q) + length items) ≡ false
some_room q status capacity items is same short below =
    le-ltb q.capacity (length (left q) + length items) (omega (arith, ap (λ s. s.capacity) is, ap (λ s. s.left) is, same, short, below))

-- what a taking from a stored queue takes
taken_there : (ring count : ℕ) (rings : List StoredQueue) (stored : StoredQueue) (said : Result Queue Refusal) → ring < length rings → stored ≡ get_or rings ring stored
    → take_first 1 count (queue stored) ≡ said → taken ring count (map queue rings) ≡ (said >>= λ new. Ok (take count (left (queue stored))))
taken_there ring count rings stored said within is takes = rw (at_there queue rings ring stored within is, takes) refl

-- the item that is taken is the first that is left
first_of : (count : ℕ) (items : List ℕ) → count ≡ 1 → leb count (length items) ≡ true → (x : ℕ) × (slice_get items 0 ≡ Some x) × (take count items ≡ x ∷ [])
first_of count [] one enough = absurd (omega (arith, leb-true count 0 enough))
first_of count (x ∷ items) one enough = (x, refl, ap (λ n. take n (x ∷ items)) one)

first_taken : (count : ℕ) (q new : Queue) → take_first 1 count q ≡ Ok new → (x : ℕ) × (slice_get (left q) 0 ≡ Some x) × (take count (left q) ≡ x ∷ [])
first_taken count q new takes =
    let h = take_ok 1 count q new takes in first_of count (left q) (omega (arith, h.1, h.2)) ((both (leb count (length (left q))) _ h.3).0)

-- the element that a taking takes, or why it takes none
abbrev pub Takes : ℕ → ℕ → List StoredQueue → Result ℕ Refusal → Type 0
Takes ring count rings said =
    MatchResult said (λ element. taken ring count (map queue rings) ≡ Ok (element ∷ [])) (λ refusal. taken ring count (map queue rings) ≡ Err refusal)

-- a stored queue yields its first item that is left, or the refusal of the taking
pub takes_first : (ring count : ℕ) (rings : List StoredQueue) (stored : StoredQueue) (new : Queue) (first : Option ℕ) (said : Result ℕ Refusal) → ring < length rings → stored ≡ get_or rings ring stored
    → take_first 1 count (queue stored) ≡ Ok new → first ≡ slice_get (left (queue stored)) 0 → said ≡ ok_or first NotRaised → Takes ring count rings said
takes_first ring count rings stored new first said within is takes first_is said_is =
    let h = first_taken count (queue stored) new takes in
    subst (Takes ring count rings) (sym (said_is ∙ ap (λ o. ok_or o NotRaised) (first_is ∙ h.1))) (taken_there ring count rings stored (Ok new) within is takes ∙ ap Ok h.2)

pub takes_none : (ring count : ℕ) (rings : List StoredQueue) (stored : StoredQueue) (e : Refusal) (passed : Result ℕ Refusal) → ring < length rings → stored ≡ get_or rings ring stored
    → take_first 1 count (queue stored) ≡ Err e → IsErrAnd passed (λ x. x ≡ e) → Takes ring count rings passed
takes_none ring count rings stored e (Ok x) within is takes err = absurd err
takes_none ring count rings stored e (Err x) within is takes err = taken_there ring count rings stored (Err e) within is takes ∙ ap Err (sym err)

-- the one element is let go
pub one_goes : (call index : ℕ) (items : List ℕ) (held : List Hold) → length items ≡ 1 → first_hold call (slice_get items 0) held ≡ Some index → let_all_go call items held ≡ Ok (remove held index)
one_goes call index [] held one found = absurd (omega (arith, one))
one_goes call index (x ∷ []) held one found = rw found refl
one_goes call index (x ∷ y ∷ items) held one found = absurd (omega (arith, one))

pub none_goes : (call : ℕ) (items : List ℕ) (held : List Hold) → length items ≡ 1 → first_hold call (slice_get items 0) held ≡ None → let_all_go call items held ≡ Err NotHeld
none_goes call [] held one found = absurd (omega (arith, one))
none_goes call (x ∷ items) held one found = rw found refl

abbrev strange : List ℕ → Elements → Bool
strange items s = list_any (leb (length s.threads)) items

pub claimed_whole : (ring call index : ℕ) (items : List ℕ) (s : Elements) (rings : List Queue) → strange items s ≡ false → first_hold call (slice_get items 0) s.held ≡ Some index
    → change_at ring (claim 1 call items) s.rings ≡ Ok rings → claim_element ring call items s ≡ Ok (record s { rings = rings; held = remove s.held index })
claimed_whole ring call index items s rings plain found ok =
    rw (plain, ok, one_goes call index items s.held (claim_one ring call items s.rings rings ok) found) refl

pub claimed_not_held : (ring call : ℕ) (items : List ℕ) (s : Elements) → strange items s ≡ false → first_hold call (slice_get items 0) s.held ≡ None
    → IsOk (change_at ring (claim 1 call items) s.rings) → claim_element ring call items s ≡ Err NotHeld
claimed_not_held ring call items s plain found fine =
    let h = ok_of (change_at ring (claim 1 call items) s.rings) fine in
    rw (plain, h.1, none_goes call items s.held (claim_one ring call items s.rings h.0 h.1) found) refl

refused_whole : (ring call : ℕ) (items : List ℕ) (s : Elements) (e : Refusal) → strange items s ≡ false → change_at ring (claim 1 call items) s.rings ≡ Err e → claim_element ring call items s ≡ Err e
refused_whole ring call items s e plain is = rw (plain, is) refl

pub claimed_why : (ring call index : ℕ) (items : List ℕ) (s : Elements) (e : Refusal) → strange items s ≡ false → first_hold call (slice_get items 0) s.held ≡ Some index
    → IsWhy e (change_at ring (claim 1 call items) s.rings) → IsWhy e (claim_element ring call items s)
claimed_why ring call index items s e plain found why =
    why_given e (change_at ring (claim 1 call items) s.rings) (claim_element ring call items s) (refused_whole ring call items s e plain)
    (λ fine. let h = ok_of (change_at ring (claim 1 call items) s.rings) fine in subst IsOk (sym (claimed_whole ring call index items s h.0 plain found h.1)) refl) why

-- the result of a wait if all else is allowed
pub waits : (call wait element ticket index count : ℕ) (thread : Thread) (s : Elements) → slice_get s.threads element ≡ Some thread → slice_get s.notified wait ≡ Some count
    → position (is_hold call element) s.held ≡ Some index → eqb count ticket ≡ true
    → wait_at call wait element ticket s ≡ (change_at (wait + 2) (claim 1 call (element ∷ [])) s.rings >>= λ rings. Ok (record s { rings = rings; held = remove s.held index }))
waits call wait element ticket index count thread s known heard found same = rw (known, heard, found, same) refl

-- the refusals of a wait
wait_not_held : (call wait element ticket count : ℕ) (thread : Thread) (s : Elements) → slice_get s.threads element ≡ Some thread → slice_get s.notified wait ≡ Some count
    → position (is_hold call element) s.held ≡ None → wait_at call wait element ticket s ≡ Err NotHeld
wait_not_held call wait element ticket count thread s known heard found = rw (known, heard, found) refl

wait_moved : (call wait element ticket index count : ℕ) (thread : Thread) (s : Elements) → slice_get s.threads element ≡ Some thread → slice_get s.notified wait ≡ Some count
    → position (is_hold call element) s.held ≡ Some index → eqb count ticket ≡ false → wait_at call wait element ticket s ≡ Err Moved
wait_moved call wait element ticket index count thread s known heard found other = rw (known, heard, found, other) refl

-- a wait in the stored elements
pub stored_waits : (s : StoredElements) (call wait element item ring ticket index count : ℕ) → element < length s.threads.items → item ≡ element → ring ≡ wait + 2 → slice_get s.notified wait ≡ Some count
    → position (is_hold call item) s.held.holds.items ≡ Some index → count ≡ ticket
    → wait_at call wait element ticket (elements s)
    ≡ (change_at ring (claim 1 call (item ∷ [])) (elements s).rings >>= λ rings. Ok (record (elements s) { rings = rings; held = remove s.held.holds.items index }))
stored_waits s call wait element item ring ticket index count below own at heard found same =
    let there = is_there s.threads.items element below in
    let equal : eqb count ticket ≡ true = grind (arith, nat_tests) in
    waits call wait element ticket index count (thread there.0) (elements s) (shown_at thread s.threads.items element there.0 there.1) heard
    (ap (λ n. position (is_hold call n) s.held.holds.items) (sym own) ∙ found) equal
    ∙ ap₂ (λ l i. change_at l (claim 1 call (i ∷ [])) (elements s).rings >>= λ rings. Ok (record (elements s) { rings = rings; held = remove s.held.holds.items index })) (sym at) (sym own)

-- a wait that is refused in the stored elements
pub stored_not_waiting : (s : StoredElements) (call wait element item ticket : ℕ) → element < length s.threads.items → wait < length s.notified → item ≡ element
    → position (is_hold call item) s.held.holds.items ≡ None → wait_at call wait element ticket (elements s) ≡ Err NotHeld
stored_not_waiting s call wait element item ticket below within own none =
    let there = is_there s.threads.items element below in let heard = is_there s.notified wait within in
    wait_not_held call wait element ticket heard.0 (thread there.0) (elements s) (shown_at thread s.threads.items element there.0 there.1) heard.1
    (ap (λ n. position (is_hold call n) s.held.holds.items) (sym own) ∙ none)

pub stored_moved : (s : StoredElements) (call wait element item ticket index count : ℕ) → element < length s.threads.items → item ≡ element → slice_get s.notified wait ≡ Some count
    → position (is_hold call item) s.held.holds.items ≡ Some index → (count ≡ ticket → ⊥) → wait_at call wait element ticket (elements s) ≡ Err Moved
stored_moved s call wait element item ticket index count below own heard found other =
    let there = is_there s.threads.items element below in
    wait_moved call wait element ticket index count (thread there.0) (elements s) (shown_at thread s.threads.items element there.0 there.1) heard
    (ap (λ n. position (is_hold call n) s.held.holds.items) (sym own) ∙ found) (ne_eqb count ticket other)
