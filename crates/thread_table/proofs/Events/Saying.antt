-- What the numbers say that a step found, and that each change is the core's event.
use Rattle.thread_table.proofs.Common.{◌≡◌, ◌≢◌, ℕ, ◌+◌, ◌/◌, ◌%◌, ◌<◌, ◌≤◌, true, false, List, [], ◌∷◌, ◌++◌, ◌∙◌, length, take, get_or, None, Ok, Result, refl, sym, ap, subst, arith, slice_get-get_or, result_unwrap_or, Thread, left, empty_queue, IsLawfulQueue, Reaches, State, step, Event, Refusal, every_at, PROCESSORS, ELEMENTS, RINGS, PLACES, Past, Grows, ring_at, thread_at, element_at, ends_word, processor_word, state_word, done_word, head_word, tail_word, place_word, StateShows, PlaceShows, processor_shown, tail_shown, mark_of, done_at, load, Step, change, head_in, mark_in, is_in, stays}
use Rattle.thread_table.specs.declared.layout.TheConstants.{STOP}
use Rattle.thread_table.specs.Schedules.{after, begun, state_after, elements_after, IsAllowed}
use Rattle.thread_table.specs.Layout.{stop_bit, cell_bit}
use Rattle.thread_table.specs.Telling.{IsValidHandStep}
use Rattle.thread_table.proofs.Schedule.Orders.{real_allows}
use Rattle.thread_table.proofs.Events.Steps.{place_says}
use Rattle.thread_table.proofs.Events.SingleRuns.{raised_known, first_of_left}
use Rattle.thread_table.proofs.Events.StatesSeen.{shown_in, pending_are}
use Rattle.thread_table.proofs.Schedule.Schedules.{lawful_after}

module _ (first : ℕ) (e : Step) (r : IsValidHandStep first e) where
  at_word : (i : ℕ) → e.word ≡ i → e.found ≡ get_or r.words i 0
  at_word i is = r.is ∙ ap (λ (z : ℕ). get_or r.words z 0) is

  pub head_says : (ring : ℕ) → ring < RINGS → e.word ≡ head_word ring → (head_in e.found ≡ first + length (ring_at (elements_after e.then.object) ring).history) × (mark_in e.found ≡ mark_of (elements_after e.then.object) ring)
  head_says ring below is = let s = r.shows.rings ring below in let found = at_word (head_word ring) is ∙ s.head in let bounded = s.bounded in (omega arith, omega arith)

  pub tail_says : (ring : ℕ) → ring < RINGS → e.word ≡ tail_word ring → e.found ≡ tail_shown first (elements_after e.then.object) ring
  tail_says ring below is = at_word (tail_word ring) is ∙ (r.shows.rings ring below).tail

  pub places_say : (ring run : ℕ) → ring < RINGS → (ring_at (elements_after e.then.object) ring).taken ≤ run → run < (ring_at (elements_after e.then.object) ring).taken + PLACES → e.word ≡ place_word ring (first + run) → PlaceShows first (ring_at (elements_after e.then.object) ring) run e.found
  places_say ring run below low high is = subst (PlaceShows first (ring_at (elements_after e.then.object) ring) run) (sym (at_word (place_word ring (first + run)) is)) ((r.shows.rings ring below).places run low high)

  pub state_says : (element : ℕ) → element < ELEMENTS → e.word ≡ state_word element → StateShows (thread_at (elements_after e.then.object) element) e.found
  state_says element known is = subst (StateShows (thread_at (elements_after e.then.object) element)) (sym (at_word (state_word element) is)) (r.shows.states element known)

  pub done_says : (element : ℕ) → element < ELEMENTS → e.word ≡ done_word element → e.found ≡ done_at e.then.object element
  done_says element known is = at_word (done_word element) is ∙ r.shows.steps element known

  pub processor_says : (p : ℕ) → p < PROCESSORS → e.word ≡ processor_word p → e.found ≡ processor_shown (get_or (elements_after e.then.object).processors p None)
  processor_says p low is = at_word (processor_word p) is ∙ r.shows.on p low

-- what the bits of a state word say
pub bits_say : (thread : Thread) (word : ℕ) → StateShows thread word
    → (is_in word stop_bit ≡ thread.stop) × (is_in word cell_bit ≡ thread.parked) × ((signal : ℕ) → signal < 16 → is_in word signal ≡ thread.pending signal) × ((signal : ℕ) → signal < 16 → is_in (word % STOP) signal ≡ thread.pending signal)
bits_say thread word s = (
  sym (shown_in thread.stop _ s.stop),
  sym (shown_in thread.parked _ s.parked),
  λ signal below. sym (shown_in (thread.pending signal) _ (s.pending signal below)),
  λ signal below. sym (pending_are thread word (word % STOP) s refl signal below),
)

lawful_at : (past : List Event) (ring : ℕ) → IsAllowed past → ring < length (elements_after past).rings → IsLawfulQueue (ring_at (elements_after past) ring)
lawful_at past ring allowed many = every_at IsLawfulQueue (elements_after past).rings ring (ring_at (elements_after past) ring) (slice_get-get_or (elements_after past).rings ring (empty_queue PLACES) many) (lawful_after past allowed).rings

module _ (first ring tail place : ℕ) (p q r : Past) (below : ring < RINGS) (loaded : IsValidHandStep first (load (tail_word ring) tail p)) (peeked : IsValidHandStep first (load (place_word ring tail) place q)) (a : Grows (elements_after p.object) (elements_after q.object)) (b : Grows (elements_after q.object) (elements_after r.object)) where
  tail_is : tail ≡ first + (ring_at (elements_after p.object) ring).taken
  tail_is = tail_says first (load (tail_word ring) tail p) loaded ring below refl

  says : ((place / 256 ≡ first + (ring_at (elements_after p.object) ring).taken + 1) → (ring_at (elements_after q.object) ring).raised (ring_at (elements_after p.object) ring).taken 0 ≡ true)
      × ((place / 256 ≡ first + (ring_at (elements_after p.object) ring).taken + 1) → (ring_at (elements_after q.object) ring).taken ≤ (ring_at (elements_after p.object) ring).taken → place % 256 ≡ element_at (ring_at (elements_after q.object) ring) (ring_at (elements_after p.object) ring).taken)
      × ((place / 256 ≢ first + (ring_at (elements_after p.object) ring).taken + 1) → (ring_at (elements_after q.object) ring).taken ≤ (ring_at (elements_after p.object) ring).taken → (ring_at (elements_after q.object) ring).raised (ring_at (elements_after p.object) ring).taken 0 ≡ false)
  says = place_says first place ring (elements_after p.object) (elements_after q.object) peeked.words below peeked.shows (lawful_after q.object peeked.lawful) a (peeked.is ∙ ap (λ (z : ℕ). get_or peeked.words (place_word ring z) 0) tail_is)

  same_taken : tail_shown first (elements_after r.object) ring ≡ tail → ((ring_at (elements_after q.object) ring).taken ≡ (ring_at (elements_after p.object) ring).taken) × ((ring_at (elements_after r.object) ring).taken ≡ (ring_at (elements_after p.object) ring).taken)
  same_taken again = let m = (a ring).further in let n = (b ring).further in let t = tail_is in (omega arith, omega arith)

  -- the place at the tail was raised, and then the tail was found again: the place has the oldest element
  pub oldest_says : (taken : IsValidHandStep first (load (tail_word ring) tail r)) → place / 256 ≡ tail + 1 → take 1 (left (ring_at (elements_after r.object) ring)) ≡ place % 256 ∷ []
  oldest_says taken up =
      let again : tail_shown first (elements_after r.object) ring ≡ tail = sym (tail_says first (load (tail_word ring) tail r) taken ring below refl) in
      let same = same_taken again in let t = tail_is in
      let marked : place / 256 ≡ first + (ring_at (elements_after p.object) ring).taken + 1 = omega arith in
      let raised = says.0 marked in
      let item = says.1 marked (omega arith) in
      let known : (ring_at (elements_after p.object) ring).taken < length (ring_at (elements_after q.object) ring).history = raised_known (ring_at (elements_after q.object) ring) (ring_at (elements_after p.object) ring).taken (lawful_at q.object ring peeked.lawful (let n = peeked.shows.queues in omega arith)) raised in
      let still : (ring_at (elements_after r.object) ring).raised (ring_at (elements_after r.object) ring).taken 0 ≡ true = subst (λ (z : ℕ). (ring_at (elements_after r.object) ring).raised z 0 ≡ true) (sym same.1) ((b ring).raised (ring_at (elements_after p.object) ring).taken raised) in
      let is : element_at (ring_at (elements_after r.object) ring) (ring_at (elements_after r.object) ring).taken ≡ place % 256 = ap (element_at (ring_at (elements_after r.object) ring)) same.1 ∙ ((b ring).items (ring_at (elements_after p.object) ring).taken known ∙ sym item) in
      first_of_left (ring_at (elements_after r.object) ring) (lawful_at r.object ring taken.lawful (let n = taken.shows.queues in omega arith)) (taken.shows.rings ring below).single still ∙ ap (λ (z : ℕ). z ∷ []) is

  -- the place at the tail was not raised, and then the tail was found again: the run there was not raised
  pub unraised_says : (again : IsValidHandStep first (load (tail_word ring) tail r)) → place / 256 ≢ tail + 1 → (ring_at (elements_after q.object) ring).raised (ring_at (elements_after q.object) ring).taken 0 ≡ false
  unraised_says again low =
      let is : tail_shown first (elements_after r.object) ring ≡ tail = sym (tail_says first (load (tail_word ring) tail r) again ring below refl) in
      let same = same_taken is in let t = tail_is in
      subst (λ (z : ℕ). (ring_at (elements_after q.object) ring).raised z 0 ≡ false) (sym same.0) (says.2 (λ up. low (omega arith)) (omega arith))

-- a step that found a number found it whatever it did
pub as_load : (first word found : ℕ) (past : Past) (event : Event) → IsValidHandStep first (change word found past event) → IsValidHandStep first (load word found past)
as_load first word found past event r = record { lawful = r.lawful; words = r.words; shows = r.shows; ends = r.ends; is = r.is; effect = stays refl }

last_step : (s : State) (past : List Event) (event : Event) (t : State) → Reaches s (past ++ event ∷ []) t → step event (after s past) ≡ Ok t
unfolding after
last_step s [] event t r = r.1 ∙ ap Ok (sym r.2)
last_step s (e ∷ es) event t r = let same : result_unwrap_or (step e s) s ≡ r.0 = ap (λ (z : Result State Refusal). result_unwrap_or z s) r.1 in
    ap (λ (z : State). step event (after z es)) same ∙ last_step r.0 es event t r.2

allowed_step : (past : List Event) (event : Event) → IsAllowed (past ++ event ∷ []) → step event (state_after past) ≡ Ok (state_after (past ++ event ∷ []))
unfolding state_after IsAllowed
allowed_step past event allowed = last_step begun past event (state_after (past ++ event ∷ [])) allowed

-- a change is an event of the core, which allowed it
pub change_says : (first word found : ℕ) (past : Past) (event : Event) → IsValidHandStep first (change word found past event) → IsAllowed (past.object ++ event ∷ []) × (step event (state_after past.object) ≡ Ok (state_after (past.object ++ event ∷ [])))
change_says first word found past made r = let allowed = real_allows first (change word found past made) r in (allowed, allowed_step past.object made allowed)

-- the number of hands
pub ends_say : (first found : ℕ) (m : Past) → IsValidHandStep first (load ends_word found m) → found ≡ m.ends
ends_say first found m r = r.is ∙ r.ends
