-- What a join of two calls makes of the elements.
use Rattle.thread_table.proofs.Common.{◌-◌, ◌≡◌, ◌≢◌, ℕ, ◌+◌, ◌*◌, ◌<◌, Bool, true, false, ◌||◌, ◌&&◌, cond, eqb, eq-eqb, ne_eqb, List, [], ◌∷◌, ◌∙◌, map, length, get_or, Option, Some, None, option_map, slice_get, refl, sym, ap, ap₂, subst, arith, map-map, eqb_tells, nat_tests, or-true, get_or-map, ⊎_elim, length-map, list_any, Elements, hold, holds, is_hold, is_put, join_elements, Queue, empty_queue, renamed, join_run, join_queue, Run, Hold, PLACES, Claimed, Counted, ring_at, element_of, no_run, QueueGrows, Grows, place_word, WordsShow, RingShows, PlaceShows, processor_shown, mark_of, IsClaimed, IsCounted, IsOpen, may_step}
use Rattle.std.proofs.Math.Bool.{and-or_distrib_right}
use Rattle.thread_table.proofs.Shown.QueueWords.{same_mark, ring_shown}
use Rattle.std.proofs.lemmas.Option.{slice_get-map}
use Rattle.event_theory.specs.Elements.{join_hold}
use Rattle.event_theory.proofs.Keeping.Joins.{slice_get_joined}

-- the names of the calls after a join
pub renamed_call : (id other : ℕ) → renamed id other id ≡ id
renamed_call id other = ⊎_elim (λ same. ap (λ (b : Bool). cond b id id) same.0) (λ differ. ap (λ (b : Bool). cond b id id) differ.0) (eqb_tells id other)

pub renamed_other : (id other : ℕ) → renamed id other other ≡ id
renamed_other id other = ap (λ (b : Bool). cond b id other) (eq-eqb other other refl)

pub renamed_third : (id other call : ℕ) → call ≢ other → renamed id other call ≡ call
renamed_third id other call ne = ap (λ (b : Bool). cond b id call) (ne_eqb call other ne)

-- tests of changed entries
any_as : {X Y : Type 0} (p : Y → Bool) (q : X → Bool) (f : X → Y) → ((x : X) → p (f x) ≡ q x) → (xs : List X) → list_any p (map f xs) ≡ list_any q xs
any_as p q f same [] = refl
any_as p q f same (x ∷ xs) = ap₂ (λ (a b : Bool). a || b) (same x) (any_as p q f same xs)

shuffled : (a b c d : Bool) → ((a || b) || (c || d)) ≡ ((a || c) || (b || d))
shuffled true b c d = refl
shuffled false true c d = sym (or-true c)
shuffled false false c d = refl

any_of_two : {X Y : Type 0} (r : Y → Bool) (p q : X → Bool) (f : X → Y) → ((x : X) → r (f x) ≡ (p x || q x)) → (xs : List X) → list_any r (map f xs) ≡ (list_any p xs || list_any q xs)
any_of_two r p q f same [] = refl
any_of_two r p q f same (x ∷ xs) = ap₂ (λ (a b : Bool). a || b) (same x) (any_of_two r p q f same xs) ∙ shuffled (p x) (q x) (list_any p xs) (list_any q xs)

any_not : {X Y : Type 0} (p : Y → Bool) (f : X → Y) → ((x : X) → p (f x) ≡ false) → (xs : List X) → list_any p (map f xs) ≡ false
any_not p f none [] = refl
any_not p f none (x ∷ xs) = ap₂ (λ (a b : Bool). a || b) (none x) (any_not p f none xs)

-- whose a hold is after a join
hold_third : (id other call element : ℕ) (h : Hold) → call ≢ id → call ≢ other → is_hold call element (join_hold id other h) ≡ is_hold call element h
hold_third id other call element h ne ne' = let named : eqb (renamed id other h.call) call ≡ eqb h.call call = grind (arith, nat_tests) in ap (λ (b : Bool). b && eqb h.element element) named

hold_call : (id other element : ℕ) (h : Hold) → is_hold id element (join_hold id other h) ≡ (is_hold id element h || is_hold other element h)
hold_call id other element h = let named : eqb (renamed id other h.call) id ≡ (eqb h.call id || eqb h.call other) = grind (arith, nat_tests) in
    ap (λ (b : Bool). b && eqb h.element element) named ∙ and-or_distrib_right (eqb h.call id) (eqb h.call other) (eqb h.element element)

hold_other : (id other element : ℕ) (h : Hold) → id ≢ other → is_hold other element (join_hold id other h) ≡ false
hold_other id other element h ne = let named : eqb (renamed id other h.call) other ≡ false = grind (arith, nat_tests) in ap (λ (b : Bool). b && eqb h.element element) named

put_third : (id other call element : ℕ) (seat : Option Hold) → call ≢ id → call ≢ other → is_put call element (option_map (join_hold id other) seat) ≡ is_put call element seat
put_third id other call element None ne ne' = refl
put_third id other call element (Some h) ne ne' = hold_third id other call element h ne ne'

-- who holds an element after a join
pub held_third : (id other call element : ℕ) (e : Elements) → call ≢ id → call ≢ other → holds call element (join_elements id other e) ≡ holds call element e
held_third id other call element e ne ne' = any_as (is_hold call element) (is_hold call element) (join_hold id other) (λ h. hold_third id other call element h ne ne') e.held

pub held_call : (id other element : ℕ) (e : Elements) → holds id element (join_elements id other e) ≡ (holds id element e || holds other element e)
held_call id other element e = any_of_two (is_hold id element) (is_hold id element) (is_hold other element) (join_hold id other) (λ h. hold_call id other element h) e.held

pub held_other : (id other element : ℕ) (e : Elements) → id ≢ other → holds other element (join_elements id other e) ≡ false
held_other id other element e ne = any_not (is_hold other element) (join_hold id other) (λ h. hold_other id other element h ne) e.held

pub may_third : (id other call element : ℕ) (e : Elements) → call ≢ id → call ≢ other → may_step call element (join_elements id other e) ≡ may_step call element e
may_third id other call element e ne ne' = ap₂ (λ (a b : Bool). a || b) (held_third id other call element e ne ne')
    (any_as (is_put call element) (is_put call element) (option_map (join_hold id other)) (λ seat. put_third id other call element seat ne ne') e.processors)

-- what a call put on a processor is then of the call's new name
put_renamed : (id other call : ℕ) (r : Option ℕ) → option_map (join_hold id other) (option_map (hold call) r) ≡ option_map (hold (renamed id other call)) r
put_renamed id other call None = refl
put_renamed id other call (Some x) = refl

pub processor_renamed : (id other call name p : ℕ) (e : Elements) (r : Option ℕ) → renamed id other call ≡ name → slice_get e.processors p ≡ Some (option_map (hold call) r) → slice_get (join_elements id other e).processors p ≡ Some (option_map (hold name) r)
processor_renamed id other call name p e r is at = slice_get-map (option_map (join_hold id other)) e.processors p
    ∙ (ap (option_map (option_map (join_hold id other))) at ∙ (ap Some (put_renamed id other call r) ∙ ap (λ (n : ℕ). Some (option_map (hold n) r)) is))

pub ring_joined : (id other ring : ℕ) (e : Elements) → ring_at (join_elements id other e) ring ≡ join_queue id other (ring_at e ring)
ring_joined id other ring e = get_or-map (join_queue id other) e.rings ring (empty_queue PLACES)

pub claim_third : (id other call : ℕ) (c : Claimed) (e : Elements) → call ≢ other → IsClaimed call c e → IsClaimed call c (join_elements id other e)
claim_third id other call c e ne h = let f : Elements = join_elements id other e in let q : Queue = ring_at e c.ring in let is : ring_at f c.ring ≡ join_queue id other q = ring_joined id other c.ring e in record {
  below = h.below;
  known = h.known;
  run = ap (λ (z : Queue). slice_get z.history c.run) is ∙ (slice_get_joined id other q.history c.run ∙ (ap (option_map (join_run id other)) h.run
      ∙ ap (λ (n : ℕ). let r : Run = record { call = n; items = c.element ∷ [] } in Some r) (renamed_third id other call ne)));
  low = ap (λ (z : Queue). z.raised c.run 0) is ∙ h.low;
}

pub count_third : (id other call : ℕ) (c : Counted) (e : Elements) → call ≢ id → call ≢ other → IsCounted call c e → IsCounted call c (join_elements id other e)
count_third id other call c e ne ne' h = record { known = h.known; may = may_third id other call c.element e ne ne' ∙ h.may; done = h.done }

-- the items of the runs stay
item_of_joined : (id other : ℕ) (h : List Run) (run : ℕ) → element_of (get_or (map (join_run id other) h) run no_run) ≡ element_of (get_or h run no_run)
item_of_joined id other h run = sym (get_or-map element_of (map (join_run id other) h) run no_run) ∙ (ap (λ (l : List ℕ). get_or l run 0) (map-map element_of (join_run id other) h) ∙ get_or-map element_of h run no_run)

queue_grows : (id other : ℕ) (q : Queue) → QueueGrows q (join_queue id other q)
queue_grows id other q = let long : length (map (join_run id other) q.history) ≡ length q.history = length-map q.history (join_run id other) in record {
  longer = omega arith;
  further = omega arith;
  items = λ run below. item_of_joined id other q.history run;
  raised = λ run h. h;
}

pub grows_joined : (id other : ℕ) (e : Elements) → Grows e (join_elements id other e)
grows_joined id other e ring = subst (QueueGrows (ring_at e ring)) (sym (ring_joined id other ring e)) (queue_grows id other (ring_at e ring))

-- a run that isn't raised then wasn't before
pub open_joined : (id other : ℕ) (e : Elements) (ring run : ℕ) → IsOpen ring run (join_elements id other e) → IsOpen ring run e
open_joined id other e ring run is = let q : Queue = ring_at e ring in let same : ring_at (join_elements id other e) ring ≡ join_queue id other q = ring_joined id other ring e in (
  subst (λ (n : ℕ). run < n) (ap (λ (z : Queue). length z.history) same ∙ length-map q.history (join_run id other)) is.0,
  sym (ap (λ (z : Queue). z.raised run 0) same) ∙ is.1,
)

place_joined : (id other first run word : ℕ) (q : Queue) → PlaceShows first q run word → PlaceShows first (join_queue id other q) run word
place_joined id other first run word q h = record {
  up = λ up. h.up up ∙ ap (λ (x : ℕ). x + 256 * (first + run + 1)) (sym (item_of_joined id other q.history run));
  low = h.low;
  early = h.early;
  late = λ low many. h.late low many ∙ ap (λ (x : ℕ). x + 256 * (first + (run - 64) + 1)) (sym (item_of_joined id other q.history (run - 64)));
}

single_by : (id other : ℕ) (found : Option Run) (run : Run) → ((r : Run) → found ≡ Some r → length r.items ≡ 1) → option_map (join_run id other) found ≡ Some run → length run.items ≡ 1
single_by id other None run one at = absurd (cc)
single_by id other (Some r) run one at = let e : join_run id other r ≡ run = cc in sym (ap (λ (z : Run). length z.items) e) ∙ one r refl

ring_shows : (id other first ring : ℕ) (e : Elements) (words : List ℕ) → RingShows first e ring words → RingShows first (join_elements id other e) ring words
ring_shows id other first ring e words h = let q : Queue = ring_at e ring in let long = length-map q.history (join_run id other) in
    ring_shown first (join_elements id other e) ring words (join_queue id other q) (mark_of e ring) (ring_joined id other ring e) (same_mark e (join_elements id other e) ring refl) h.capacity h.is_open
    (λ number run at. single_by id other (slice_get q.history number) run (h.single number) (sym (slice_get_joined id other q.history number) ∙ at))
    (omega (arith, h.bounded, long)) h.marked (h.head ∙ omega (arith, long)) h.tail
    (λ run from to. place_joined id other first run (get_or words (place_word ring (first + run)) 0) q (h.places run from to))

seat_word_joined : (id other : ℕ) (seat : Option Hold) → processor_shown (option_map (join_hold id other) seat) ≡ processor_shown seat
seat_word_joined id other None = refl
seat_word_joined id other (Some h) = refl

pub words_joined : (id other first : ℕ) (e : Elements) (words : List ℕ) → WordsShow first e words → WordsShow first (join_elements id other e) words
words_joined id other first e words h = record {
  wide = h.wide;
  threads = h.threads;
  queues = length-map e.rings (join_queue id other) ∙ h.queues;
  waits = h.waits;
  processors = length-map e.processors (option_map (join_hold id other)) ∙ h.processors;
  on = λ p below. h.on p below ∙ sym (ap processor_shown (get_or-map (option_map (join_hold id other)) e.processors p None) ∙ seat_word_joined id other (get_or e.processors p None));
  states = h.states;
  steps = h.steps;
  few = h.few;
  rings = λ ring below. ring_shows id other first ring e words (h.rings ring below);
  unused = h.unused;
}
