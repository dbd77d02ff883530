-- The events that move elements keep them lawful.
use Rattle.std.proofs.Common.{◌≡◌, ℕ, zero, suc, ◌+◌, ◌<◌, ◌≤◌, Bool, true, false, ◌||◌, not, cond, List, [], ◌∷◌, ◌++◌, ◌∙◌, length, map, take, set, refl, sym, ap, subst, arith, Option, Some, None, slice_get, eqb, Ok, All, nat_le, ◌≢◌, option_map, ◌⊎◌, inl, inr}
use Rattle.std.proofs.lemmas.Option.{get_or_from_slice_get, slice_get_within}
use Rattle.std.proofs.lemmas.List.Elements.{All-get_or, All-set, All-map, All-weaker, All-nil, All-cons}
use Rattle.std.proofs.lemmas.Bool.Decides.{nat_tests, eqb_tells}
use Rattle.std.proofs.lemmas.List.Sums.{sum_by-cons}
use Rattle.std.specs.Cmp.Derive.{both_true}
use Rattle.std.specs.List.{repeat, range_with_len, list_all, list_any, sum_by}
use Rattle.event_theory.specs.Queues.{Queue, left, empty_queue, full_queue, join_queue, claim, raise, take_first}
use Rattle.event_theory.specs.Elements.{Elements, Thread, hold, let_go, let_all_go, claim_element, raise_element, take_element, is_busy, put_on, put_by, take_off, join_hold, join_elements, new_thread, first_elements}
use Rattle.event_theory.specs.Lawful.{IsLawfulQueue, IsLawfulElements}
use Rattle.event_theory.specs.Results.{◌>>=◌, at, change_at}
use Rattle.event_theory.specs.Appearances.{appearances, in_list, in_cell, is_on}
use Rattle.event_theory.specs.Marks.{wait_ring, wait_at}
use Rattle.event_theory.specs.declared.hold.Hold.{Hold}
use Rattle.event_theory.specs.declared.refusal.Refusal.TheVariants.{UnknownName, NotOwner, ProcessorBusy, Moved}
use Rattle.event_theory.proofs.Lists.Inversions.{then_ok, test_ok, given_ok, some_ok, change_ok}
use Rattle.event_theory.proofs.Keeping.Queues.{claim_law, raise_law, take_law}
use Rattle.event_theory.proofs.Keeping.Joins.{join_queue_law, left_joined}
use Rattle.event_theory.proofs.Keeping.First.{empty_law, full_law, left_full}
use Rattle.event_theory.proofs.Keeping.Places.{one, in_hands, sum_changed, sum_mapped, let_go_count, let_all_go_count, claim_left, raise_left, take_left, in_joined, in_hands_joined, in_hands_taken}

-- an event that leaves each element in as many places keeps the elements lawful
pub moved_lawful : (s t : Elements) → IsLawfulElements s → All IsLawfulQueue t.rings → length t.threads ≡ length s.threads
    → list_all (λ thread. not thread.parked || thread.stop) t.threads ≡ true → ((element : ℕ) → appearances element t ≡ appearances element s)
    → IsLawfulElements t
moved_lawful s t lawful rings many stopped same = record {
  rings = rings;
  once = λ element below. same element ∙ lawful.once element (subst (λ n. element < n) many below);
  known = λ element past. same element ∙ lawful.known element (subst (λ n. n ≤ element) many past);
  stopped = stopped;
}

-- what holds of each entry holds of the one at an index
pub every_at : {X : Type 0} (P : X → Type 0) (xs : List X) (index : ℕ) (x : X) → slice_get xs index ≡ Some x → All P xs → P x
every_at P xs index x at all =
    subst P (get_or_from_slice_get xs index x x at) (All-get_or P xs index x (slice_get_within xs index x at) all)

-- one ring changed, and what is held with it
pub ring_lawful : (ring : ℕ) (s : Elements) (old new : Queue) (held : List Hold) → IsLawfulElements s → slice_get s.rings ring ≡ Some old
    → IsLawfulQueue new
    → ((element : ℕ) → in_list element (left new) + in_hands element held ≡ in_list element (left old) + in_hands element s.held)
    → IsLawfulElements (record s { rings = set s.rings ring new; held = held })
ring_lawful ring s old new held lawful at good same =
    moved_lawful s (record s { rings = set s.rings ring new; held = held }) lawful
    (All-set IsLawfulQueue s.rings ring new good lawful.rings) refl lawful.stopped
    (λ element. omega (arith, same element, sum_changed (λ q. in_list element (left q)) s.rings ring old new at))

pub claim_element_law : (ring call : ℕ) (items : List ℕ) (s t : Elements) → IsLawfulElements s → claim_element ring call items s ≡ Ok t → IsLawfulElements t
claim_element_law ring call items s t lawful ok =
    let a = test_ok (list_any (nat_le (length s.threads)) items) UnknownName _ t ok in
    let b = then_ok (change_at ring (claim 1 call items) s.rings) _ t a.1 in
    let c = then_ok (let_all_go call items s.held) _ t b.2 in
    let d = change_ok ring (claim 1 call items) s.rings b.0 b.1 in
    let was : IsLawfulQueue d.0 = every_at IsLawfulQueue s.rings ring d.0 d.2 lawful.rings in
    let is : record s { rings = set s.rings ring d.1; held = c.0 } ≡ t =
    ap (λ rings. record s { rings = rings; held = c.0 }) (sym d.4) ∙ given_ok _ t c.2 in
    subst IsLawfulElements is (ring_lawful ring s d.0 d.1 c.0 lawful d.2 (claim_law 1 call items d.0 d.1 was d.3)
    (λ element. omega (
      arith,
      let_all_go_count call items s.held c.0 c.1 element,
      ap (in_list element) (claim_left 1 call items d.0 d.1 was d.3),
      in_joined element (left d.0) items,
    )))

pub raise_element_law : (ring call run index : ℕ) (s t : Elements) → IsLawfulElements s → raise_element ring call run index s ≡ Ok t → IsLawfulElements t
raise_element_law ring call run index s t lawful ok =
    let a = then_ok (change_at ring (raise call run index) s.rings) _ t ok in
    let d = change_ok ring (raise call run index) s.rings a.0 a.1 in
    let was : IsLawfulQueue d.0 = every_at IsLawfulQueue s.rings ring d.0 d.2 lawful.rings in
    let is : record s { rings = set s.rings ring d.1 } ≡ t = ap (λ rings. record s { rings = rings }) (sym d.4) ∙ given_ok _ t a.2 in
    subst IsLawfulElements is (ring_lawful ring s d.0 d.1 s.held lawful d.2 (raise_law call run index d.0 d.1 was d.3)
    (λ element. ap (λ xs. in_list element xs + in_hands element s.held) (raise_left call run index d.0 d.1 d.3)))

pub take_element_law : (ring call count : ℕ) (s t : Elements) → IsLawfulElements s → take_element ring call count s ≡ Ok t → IsLawfulElements t
take_element_law ring call count s t lawful ok =
    let a = then_ok (at ring s.rings) _ t ok in
    let b = then_ok (take_first 1 count a.0) _ t a.2 in
    let there : slice_get s.rings ring ≡ Some a.0 = some_ok (slice_get s.rings ring) UnknownName a.0 a.1 in
    let was : IsLawfulQueue a.0 = every_at IsLawfulQueue s.rings ring a.0 there lawful.rings in
    let more : List Hold = map (hold call) (take count (left a.0)) in
    subst IsLawfulElements (given_ok _ t b.2)
    (ring_lawful ring s a.0 b.0 (s.held ++ more) lawful there (take_law 1 count a.0 b.0 was b.1)
    (λ element. omega (
      arith,
      ap (in_list element) (take_left 1 count a.0 b.0 b.1),
      in_joined element (take count (left a.0)) (left b.0),
      in_hands_joined element s.held more,
      in_hands_taken call element (take count (left a.0)),
    )))

-- a claim in a wait queue, of one element that its call held
pub wait_at_law : (call wait element ticket : ℕ) (s t : Elements) → IsLawfulElements s → wait_at call wait element ticket s ≡ Ok t → IsLawfulElements t
wait_at_law call wait element ticket s t lawful ok =
    let a = then_ok (at element s.threads) _ t ok in
    let b = then_ok (at wait s.notified) _ t a.2 in
    let c = then_ok (let_go call element s.held) _ t b.2 in
    let e = test_ok (not (eqb b.0 ticket)) Moved _ t c.2 in
    let f = then_ok (change_at (wait_ring wait) (claim 1 call (element ∷ [])) s.rings) _ t e.1 in
    let d = change_ok (wait_ring wait) (claim 1 call (element ∷ [])) s.rings f.0 f.1 in
    let was : IsLawfulQueue d.0 = every_at IsLawfulQueue s.rings (wait_ring wait) d.0 d.2 lawful.rings in
    let is : record s { rings = set s.rings (wait_ring wait) d.1; held = c.0 } ≡ t =
    ap (λ rings. record s { rings = rings; held = c.0 }) (sym d.4) ∙ given_ok _ t f.2 in
    subst IsLawfulElements is (ring_lawful (wait_ring wait) s d.0 d.1 c.0 lawful d.2 (claim_law 1 call (element ∷ []) d.0 d.1 was d.3)
    (λ x. omega (
      arith,
      let_go_count call element s.held c.0 c.1 x,
      ap (in_list x) (claim_left 1 call (element ∷ []) d.0 d.1 was d.3),
      in_joined x (left d.0) (element ∷ []),
    )))

-- how often an element is on a processor
abbrev seated : ℕ → Option Hold → ℕ
seated element seat = cond (is_on element seat) 1 0

-- one processor changed, and what is held with it
pub seat_lawful : (processor : ℕ) (s : Elements) (old new : Option Hold) (held : List Hold) → IsLawfulElements s → slice_get s.processors processor ≡ Some old
    → ((element : ℕ) → seated element new + in_hands element held ≡ seated element old + in_hands element s.held)
    → IsLawfulElements (record s { processors = set s.processors processor new; held = held })
seat_lawful processor s old new held lawful at same =
    moved_lawful s (record s { processors = set s.processors processor new; held = held }) lawful lawful.rings refl lawful.stopped
    (λ element. omega (arith, same element, sum_changed (seated element) s.processors processor old new at))

free_seat : (seat : Option Hold) → is_busy seat ≡ false → seat ≡ None
free_seat None h = refl
free_seat (Some h) busy = absurd (cc)

pub put_on_law : (call processor element : ℕ) (s t : Elements) → IsLawfulElements s → put_on call processor element s ≡ Ok t → IsLawfulElements t
put_on_law call processor element s t lawful ok =
    let a = then_ok (at element s.threads) _ t ok in
    let b = then_ok (at processor s.processors) _ t a.2 in
    let c = then_ok (let_go call element s.held) _ t b.2 in
    let e = test_ok (is_busy b.0) ProcessorBusy _ t c.2 in
    let free : b.0 ≡ None = free_seat b.0 e.0 in
    let there : slice_get s.processors processor ≡ Some b.0 = some_ok (slice_get s.processors processor) UnknownName b.0 b.1 in
    subst IsLawfulElements (given_ok _ t e.1)
    (seat_lawful processor s None (Some (hold call element)) c.0 lawful (there ∙ ap Some free)
    (λ x. omega (arith, let_go_count call element s.held c.0 c.1 x)))

-- what came off a processor was on it
taken_off : (call : ℕ) (seat : Option Hold) (h : Hold) → put_by call seat ≡ Ok h → seat ≡ Some h
taken_off call None h ok = absurd (cc)
taken_off call (Some g) h ok =
    let a = test_ok (not (eqb g.call call)) NotOwner _ h ok in ap Some (given_ok g h a.1)

pub take_off_law : (call processor : ℕ) (s t : Elements) → IsLawfulElements s → take_off call processor s ≡ Ok t → IsLawfulElements t
take_off_law call processor s t lawful ok =
    let a = then_ok (at processor s.processors >>= put_by call) _ t ok in
    let b = then_ok (at processor s.processors) (put_by call) a.0 a.1 in
    let there : slice_get s.processors processor ≡ Some b.0 = some_ok (slice_get s.processors processor) UnknownName b.0 b.1 in
    let on : b.0 ≡ Some a.0 = taken_off call b.0 a.0 b.2 in
    subst IsLawfulElements (given_ok _ t a.2)
    (seat_lawful processor s (Some a.0) None (s.held ++ a.0 ∷ []) lawful (there ∙ ap Some on)
    (λ x. omega (arith, in_hands_joined x s.held (a.0 ∷ []))))

same_seat : (call other element : ℕ) (seat : Option Hold) → seated element (option_map (join_hold call other) seat) ≡ seated element seat
same_seat call other element None = refl
same_seat call other element (Some h) = refl

-- a join renames calls, and moves no element
pub join_elements_law : (call other : ℕ) (s : Elements) → IsLawfulElements s → IsLawfulElements (join_elements call other s)
join_elements_law call other s lawful =
    moved_lawful s (join_elements call other s) lawful
    (All-map IsLawfulQueue (join_queue call other) s.rings
    (All-weaker IsLawfulQueue (λ q. IsLawfulQueue (join_queue call other q)) (join_queue_law call other) s.rings lawful.rings))
    refl lawful.stopped
    (λ element. omega (
      arith,
      sum_mapped (seated element) (option_map (join_hold call other)) (seated element) (same_seat call other element) s.processors,
      sum_mapped (λ q. in_list element (left q)) (join_queue call other) (λ q. in_list element (left q)) (λ q. ap (in_list element) (left_joined call other q)) s.rings,
      sum_mapped (λ (h : Hold). one h.element element) (join_hold call other) (λ (h : Hold). one h.element element) (λ h. refl) s.held,
    ))

-- a list of one entry, so many times over
abbrev copies : {X : Type 0} → ℕ → X → List X
copies count x = repeat count (x ∷ [])

length-copies : {X : Type 0} (count : ℕ) (x : X) → length (copies count x) ≡ count
length-copies zero x = refl
length-copies (suc count) x = ap suc (length-copies count x)

every_copy : {X : Type 0} (P : X → Type 0) (count : ℕ) (x : X) → P x → All P (copies count x)
every_copy P zero x good = All-nil P
every_copy P (suc count) x good = All-cons P x (copies count x) good (every_copy P count x good)

copies_pass : {X : Type 0} (p : X → Bool) (count : ℕ) (x : X) → p x ≡ true → list_all p (copies count x) ≡ true
copies_pass p zero x passes = refl
copies_pass p (suc count) x passes = both_true passes (copies_pass p count x passes)

no_copy_counts : {X : Type 0} (f : X → ℕ) (count : ℕ) (x : X) → f x ≡ 0 → sum_by f (copies count x) ≡ 0
no_copy_counts f zero x none = refl
no_copy_counts f (suc count) x none = sum_by-cons f x (copies count x) ∙ omega (arith, none, no_copy_counts f count x none)

no_cell : (count element : ℕ) → in_cell (slice_get (copies count new_thread) element) ≡ 0
no_cell zero element = refl
no_cell (suc count) zero = refl
no_cell (suc count) (suc element) = no_cell count element

before_range : (first count element : ℕ) → element < first → in_list element (range_with_len first count) ≡ 0
before_range first zero element before = refl
before_range first (suc count) element before =
    let differ : one first element ≡ 0 = grind (arith, nat_tests) in
    sum_by-cons (λ x. one x element) first (range_with_len (first + 1) count)
    ∙ omega (arith, differ, before_range (first + 1) count element (omega arith))

within_by : (first count element : ℕ) → first ≤ element → element < first + suc count
    → (first + 1 ≤ element → element < first + 1 + count → in_list element (range_with_len (first + 1) count) ≡ 1)
    → ((eqb first element ≡ true) × (first ≡ element)) ⊎ ((eqb first element ≡ false) × (first ≢ element))
    → one first element + in_list element (range_with_len (first + 1) count) ≡ 1
within_by first count element from below later (inl same) =
    rw same.0 (omega (arith, before_range (first + 1) count element (omega (arith, same.1))))
within_by first count element from below later (inr differ) =
    rw differ.0 (omega (arith, later (omega (arith, differ.1)) (omega arith)))

within_range : (first count element : ℕ) → first ≤ element → element < first + count → in_list element (range_with_len first count) ≡ 1
within_range first zero element from below = absurd (omega arith)
within_range first (suc count) element from below =
    sum_by-cons (λ x. one x element) first (range_with_len (first + 1) count)
    ∙ within_by first count element from below (within_range (first + 1) count element) (eqb_tells first element)

past_range : (first count element : ℕ) → first + count ≤ element → in_list element (range_with_len first count) ≡ 0
past_range first zero element past = refl
past_range first (suc count) element past =
    let differ : one first element ≡ 0 = grind (arith, nat_tests) in
    sum_by-cons (λ x. one x element) first (range_with_len (first + 1) count)
    ∙ omega (arith, differ, past_range (first + 1) count element (omega arith))

-- at first each element appears as often as it is in the range of all of them
first_places : (count element : ℕ) → appearances element (first_elements count) ≡ in_list element (range_with_len 0 count)
first_places count element =
    let f : Queue → ℕ = λ q. in_list element (left q) in
    omega (
      arith,
      no_cell count element,
      ap (in_list element) (left_full count),
      sum_by-cons f (empty_queue count) (full_queue count ∷ copies 16 (empty_queue count)),
      sum_by-cons f (full_queue count) (copies 16 (empty_queue count)),
      no_copy_counts f 16 (empty_queue count) refl,
      no_copy_counts (seated element) 8 None refl,
    )

pub first_elements_law : (count : ℕ) → IsLawfulElements (first_elements count)
first_elements_law count =
    let s : Elements = first_elements count in
    let many : length s.threads ≡ count = length-copies count new_thread in
    record {
      rings = All-cons IsLawfulQueue (empty_queue count) (full_queue count ∷ copies 16 (empty_queue count)) (empty_law count)
          (All-cons IsLawfulQueue (full_queue count) (copies 16 (empty_queue count)) (full_law count)
          (every_copy IsLawfulQueue 16 (empty_queue count) (empty_law count)));
      once = λ element below. first_places count element ∙ within_range 0 count element (omega arith) (omega (arith, many, below));
      known = λ element past. first_places count element ∙ past_range 0 count element (omega (arith, many, past));
      stopped = copies_pass (λ (thread : Thread). not thread.parked || thread.stop) count new_thread refl;
    }
