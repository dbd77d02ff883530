-- The place of an element of a closed table: the words show its one appearance, or the hand that closed holds it.
use Rattle.thread_table.proofs.Common.{◌≡◌, ◌≢◌, ℕ, zero, suc, ◌+◌, ◌-◌, ◌%◌, ◌<◌, ◌≤◌, Bool, true, false, cond, eqb, List, [], ◌∷◌, length, map, drop, get_or, Some, None, Option, slice_get, refl, sym, ap, subst, ◌∙◌, arith, length-drop, eq-eqb, ne_eqb, true≢false, or_left, or_right, and_from, list_any-append, list_any_at, sum_by-cons, get_or-le-sum_by, slice_get-get_or, bit_at, list_any, sum_by, dite, dec_lt, ℕ_discrete, appearances, is_on, in_list, in_cell, Elements, is_hold, holds, new_thread, IsLawfulElements, IsLawfulQueue, Queue, empty_queue, left, flat, Hold, every_at, ProcessorOf, IsIn, RingOf, PlaceOf, StandsAt, is_left, place_by, word_at, ring_at, thread_at, element_at, element_of, no_run, ELEMENTS, RINGS, PLACES, state_word, place_word, WordsShow, processor_shown, bit_of, Place}
use Rattle.thread_table.proofs.Lists.Counts.{find_it}
use Rattle.std.proofs.lemmas.List.{get_or-drop, get_or-map}
use Rattle.std.specs.List.{count_by}
use Rattle.thread_table.specs.Closings.{ring_place}
use Rattle.thread_table.proofs.Events.SingleRuns.{Singles, flat_single, flat_long, within_room}

sum_none : {X : Type 0} (f : X → ℕ) (xs : List X) (d : X) → ((i : ℕ) → i < length xs → f (get_or xs i d) ≡ 0) → sum_by f xs ≡ 0
sum_none f [] d each = refl
sum_none f (x ∷ xs) d each = omega (arith, sum_by-cons f x xs, each 0 (omega arith), sum_none f xs d (λ i below. each (suc i) (omega arith)))

processor_none : (seat : Option Hold) (x : ℕ) → processor_shown seat ≢ x + 1 → is_on x seat ≡ false
processor_none None x ne = refl
processor_none (Some h) x ne = ne_eqb h.element x (λ e. ne (omega arith))

processor_some : (seat : Option Hold) (x : ℕ) → processor_shown seat ≡ x + 1 → is_on x seat ≡ true
processor_some None x is = absurd (omega arith)
processor_some (Some h) x is = eq-eqb h.element x (omega arith)

-- what is left of a queue of single runs, by its number
left_at : (q : Queue) (i : ℕ) → Singles q.history → q.taken + i < length q.history → get_or (left q) i 0 ≡ element_at q (q.taken + i)
left_at q i single below = ap (λ items. get_or (drop q.taken items) i 0) (flat_single q.history single)
    ∙ (get_or-drop q.taken (map element_of q.history) i 0 ∙ get_or-map element_of q.history (q.taken + i) no_run 0 below)

left_long : (q : Queue) → Singles q.history → length (left q) ≡ length q.history - q.taken
left_long q single = let long : length (left q) ≡ length (flat q.history) - q.taken = length-drop q.taken (flat q.history) in let many = flat_long q.history single in omega arith

-- an element that is held, and by no other call, is held by this call
held_by : (call x : ℕ) (held : List Hold) → 1 ≤ count_by (λ (h : Hold). eqb h.element x) held → ((other : ℕ) → other ≢ call → list_any (is_hold other x) held ≡ false) → list_any (is_hold call x) held ≡ true
held_by call x held some alone = let f = find_it (λ (h : Hold). eqb h.element x) held some in let p : Hold → Bool = is_hold f.it.call x in
    let here : list_any p held ≡ true = ap (list_any p) f.is ∙ (list_any-append p f.front (f.it ∷ f.back)
    ∙ or_right (list_any p f.front) (list_any p (f.it ∷ f.back)) (or_left (p f.it) (list_any p f.back) (and_from (eqb f.it.call f.it.call) (eqb f.it.element x) (eq-eqb f.it.call f.it.call refl) f.passes))) in
    dite (ℕ_discrete f.it.call call)
    (λ same. subst (λ (c : ℕ). list_any (is_hold c x) held ≡ true) same here)
    (λ ne. absurd (true≢false (sym here ∙ alone f.it.call ne)))

-- a bit that shows a mark
pub bit_read : (bit : ℕ) (b : Bool) → bit ≡ bit_of b → b ≡ eqb bit 1
bit_read bit true is = sym (eq-eqb bit 1 is)
bit_read bit false is = sym (ne_eqb bit 1 (λ one. omega (arith, is, one)))

-- the words show the elements, all that is left in the queues is raised, and no other call holds an element
pub record Settled (call first : ℕ) (e : Elements) (words : List ℕ) : Type 0 where
  pub lawful : IsLawfulElements e
  pub shows : WordsShow first e words
  pub raised : (ring run : ℕ) → ring < RINGS → run < length (ring_at e ring).history → (ring_at e ring).raised run 0 ≡ true
  pub alone : (other element : ℕ) → other ≢ call → holds other element e ≡ false

-- an element of a queue is one of the elements
left_known : (e : Elements) (ring i : ℕ) → IsLawfulElements e → ring < length e.rings → i < length (left (ring_at e ring)) → get_or (left (ring_at e ring)) i 0 < length e.threads
left_known e ring i lawful below within =
    let q : Queue = ring_at e ring in let y : ℕ = get_or (left q) i 0 in
    let here : bit_of (eqb y y) ≤ in_list y (left q) = get_or-le-sum_by (λ (item : ℕ). cond (eqb item y) 1 0) (left q) i 0 within in
    let itself : bit_of (eqb y y) ≡ 1 = rw (eq-eqb y y refl) refl in
    let sum : in_list y (left q) ≤ sum_by (λ (r : Queue). in_list y (left r)) e.rings = get_or-le-sum_by (λ (r : Queue). in_list y (left r)) e.rings ring (empty_queue PLACES) below in
    dite (dec_lt y (length e.threads)) (λ yes. yes) (λ no. absurd (omega (arith, lawful.known y (omega arith), here, itself, sum)))

module _ (call first : ℕ) (e : Elements) (words : List ℕ) (s : Settled call first e words) where
  lawful_ring : (ring : ℕ) → ring < RINGS → IsLawfulQueue (ring_at e ring)
  lawful_ring ring below = let many = s.shows.queues in every_at IsLawfulQueue e.rings ring (ring_at e ring) (slice_get-get_or e.rings ring (empty_queue PLACES) (omega arith)) s.lawful.rings

  -- the place of what is left has its element
  left_word : (ring i : ℕ) → ring < RINGS → i < length (left (ring_at e ring)) → word_at words (place_word ring (first + ((ring_at e ring).taken + i))) % 256 ≡ get_or (left (ring_at e ring)) i 0
  left_word ring i below within =
      let q : Queue = ring_at e ring in let l = s.shows.rings ring below in let many = s.shows.queues in let wide = s.shows.threads in let long = left_long q l.single in
      let room = within_room q 64 (lawful_ring ring below) l.single l.capacity in let near = room.1 in
      let bounded : get_or (left q) i 0 < length e.threads = left_known e ring i s.lawful (omega arith) within in
      let is : get_or (left q) i 0 ≡ element_at q (q.taken + i) = left_at q i l.single (omega arith) in
      let word = (l.places (q.taken + i) (omega arith) (omega arith)).up (s.raised ring (q.taken + i) below (omega arith)) in
      omega (arith, bounded, is, word, wide)

  in_left : (x ring : ℕ) → ring < RINGS → IsIn x words ring → is_left x (ring_at e ring) ≡ true
  in_left x ring below is =
      let q : Queue = ring_at e ring in let l = s.shows.rings ring below in let long = left_long q l.single in let i : ℕ = is.0 - (first + q.taken) in
      let tail = l.tail in let head = l.head in let bounded = l.bounded in let from = is.1 in let to = is.2 in
      let there : first + (q.taken + i) ≡ is.0 = omega arith in let within : i < length (left q) = omega arith in
      list_any_at (λ (item : ℕ). eqb item x) (left q) i 0 within
      (eq-eqb (get_or (left q) i 0) x (sym (left_word ring i below within) ∙ (ap (λ (n : ℕ). word_at words (place_word ring n) % 256) there ∙ is.3)))

  not_left : (x ring : ℕ) → ring < RINGS → (IsIn x words ring → ⊥) → in_list x (left (ring_at e ring)) ≡ 0
  not_left x ring below none =
      let q : Queue = ring_at e ring in let l = s.shows.rings ring below in let long = left_long q l.single in
      let tail = l.tail in let head = l.head in let bounded = l.bounded in
      sum_none (λ (item : ℕ). cond (eqb item x) 1 0) (left q) 0 (λ i within.
      ap (λ (b : Bool). cond b 1 0) (ne_eqb (get_or (left q) i 0) x (λ same. none (
        first + (q.taken + i),
        omega arith,
        omega arith,
        left_word ring i below within ∙ same,
      ))))

  not_on : (x : ℕ) → ProcessorOf x words None → count_by (is_on x) e.processors ≡ 0
  not_on x none = let eight = s.shows.processors in sum_none (λ (seat : Option Hold). cond (is_on x seat) 1 0) e.processors None (λ p below.
      ap (λ (b : Bool). cond b 1 0) (processor_none (get_or e.processors p None) x (λ same. none p (omega arith) (s.shows.on p (omega arith) ∙ same))))

  -- an element in no place is in the hand
  in_hand : (x : ℕ) → x < ELEMENTS → ProcessorOf x words None → RingOf x words None → (thread_at e x).parked ≡ false → holds call x e ≡ true
  in_hand x below seat ring cell =
      let many = s.shows.threads in let rows = s.shows.queues in
      let once : appearances x e ≡ 1 = s.lawful.once x (omega arith) in
      let processors = not_on x seat in
      let rings : sum_by (λ (q : Queue). in_list x (left q)) e.rings ≡ 0 = sum_none (λ (q : Queue). in_list x (left q)) e.rings (empty_queue PLACES) (λ l within. not_left x l (omega arith) (ring l (omega arith))) in
      let cells : in_cell (slice_get e.threads x) ≡ 0 = ap in_cell (slice_get-get_or e.threads x new_thread (omega arith)) ∙ ap (λ (b : Bool). cond b 1 0) cell in
      held_by call x e.held (omega (arith, once, processors, rings, cells)) (λ other ne. s.alone other x ne)

  in_ring : (x ring : ℕ) → RingOf x words (Some ring) → StandsAt call x e (ring_place ring)
  in_ring x zero is = in_left x 0 is.0 is.1
  in_ring x (suc zero) is = in_left x 1 is.0 is.1
  in_ring x (suc (suc wait)) is = let same : suc (suc wait) ≡ wait + 2 = omega arith in ap (λ (n : ℕ). is_left x (ring_at e n)) (sym same) ∙ in_left x (suc (suc wait)) is.0 is.1

  in_cell_or_hand : (x : ℕ) → x < ELEMENTS → ProcessorOf x words None → RingOf x words None → (b : Bool) → (thread_at e x).parked ≡ b → StandsAt call x e (place_by None None b)
  in_cell_or_hand x below seat ring true is = is
  in_cell_or_hand x below seat ring false is = in_hand x below seat ring is

  stands_by : (x : ℕ) → x < ELEMENTS → (seat ring : Option ℕ) → ProcessorOf x words seat → RingOf x words ring
      → StandsAt call x e (place_by seat ring (eqb (bit_at (word_at words (state_word x)) 17) 1))
  stands_by x below (Some p) ring is in_row = processor_some (get_or e.processors p None) x (sym (s.shows.on p is.0) ∙ is.1)
  stands_by x below None (Some l) is in_row = in_ring x l in_row
  stands_by x below None None is in_row = in_cell_or_hand x below is in_row _ (bit_read (bit_at (word_at words (state_word x)) 17) (thread_at e x).parked (s.shows.states x below).parked)

  -- the element is in the place that the words show
  pub stands : (x : ℕ) (place : Place) → x < ELEMENTS → PlaceOf x words place → StandsAt call x e place
  stands x place below is = subst (StandsAt call x e) (sym is.4) (stands_by x below is.0 is.1 is.2 is.3)
