-- The table as it is made keeps the rule: all elements are free.
use Rattle.thread_table.proofs.Common.{AreZero, IsUsed, ◌≡◌, ◌≢◌, ℕ, zero, suc, ◌+◌, ◌*◌, ◌%◌, ◌<◌, ◌≤◌, Bool, true, false, cond, eqb, ne_eqb, List, [], ◌∷◌, ◌∙◌, map, length, get_or, Option, Some, None, slice_get, refl, sym, ap, subst, arith, true≢false, repeat, get_or-map-range_with_len, length-map-range_with_len, nat_tests, range_with_len, of_hands, some, some-injective, some-ne-none, get_elem?, opening, EndsStand, opened, first_of, AreOrdered, order_to, order_at, HandState, Elements, Thread, new_thread, holds, Queue, empty_queue, full_queue, Run, State, Hold, begins_refl, had_by_both, Shape, View, ring_at, thread_at, element_at, element_of, no_run, WORDS, ELEMENTS, RINGS, PLACES, head_word, tail_word, place_word, free_ring, WordsShow, RingShows, StateShows, processor_shown, mark_of, IsSteady, IsNewest, Rule, HandIs, Seen, IsOpen, newcomer, nothing_of, now_of, places_word, ready_ring, processor_word, state_word, done_word}
use Rattle.std.proofs.Common.{ltb}
use Rattle.thread_table.proofs.Shown.QueueWords.{ring_shown}
use Rattle.thread_table.proofs.Hands.HeldLists.{hand_idle}
use Rattle.std.proofs.lemmas.Nat.Bits.{bit_at-zero}
use Rattle.event_theory.specs.Elements.{first_elements}
use Rattle.table_theory.proofs.Standing.{stand_opened}
use Rattle.thread_table.specs.Schedules.{elements_after}
use Rattle.thread_table.proofs.Events.Owing.{AllOwned}
use Rattle.thread_table.proofs.Schedule.Courses.{no_joins, order_opened}
use Rattle.thread_table.proofs.Schedule.JoinEvents.{joined_first}
use Rattle.thread_table.proofs.Schedule.ListedEvents.{made_first}
use Rattle.thread_table.proofs.Lists.Copies.{length-copies, get_or-copies, slice_get-copies_by}
use Rattle.thread_table.proofs.Schedule.Schedules.{after_none, elements_of, grows_refl}

-- the entry that is used for no element on a processor
abbrev no_hold : Option Hold
no_hold = None

abbrev e64 : Elements
e64 = first_elements 64

-- the words of a new table, with one hand, where all elements are free
pub record AreBlank (first : ℕ) (words : List ℕ) : Type 0 where
  pub fits : first + 64 < 4294967296
  pub long : length words ≡ WORDS
  pub ends : get_or words 0 0 ≡ 1
  pub low : (i : ℕ) → 1 ≤ i → i < head_word ready_ring → get_or words i 0 ≡ 0
  pub heads : (ring : ℕ) → ring < RINGS → get_or words (head_word ring) 0 ≡ first + cond (eqb ring 1) 64 0
  pub tails : (ring : ℕ) → ring < RINGS → get_or words (tail_word ring) 0 ≡ first
  pub items : (x : ℕ) → x < ELEMENTS → get_or words (place_word free_ring (first + x)) 0 ≡ x + 256 * (first + x + 1)
  pub zeros : (ring i : ℕ) → ring < RINGS → ring ≢ 1 → i < 64 → get_or words (places_word ring + i) 0 ≡ 0
  pub unused : AreZero IsUsed words

-- an element queue that is empty, and whose words are as they were made
empty_shows : (first ring : ℕ) (words : List ℕ) → AreBlank first words → ring < RINGS → ring ≢ 1 → ring_at e64 ring ≡ empty_queue PLACES → mark_of e64 ring ≡ 0 → RingShows first e64 ring words
empty_shows first ring words b below ne is none = let fits = b.fits in let head = b.heads ring below ∙ ap (λ (z : Bool). first + cond z 64 0) (ne_eqb ring 1 ne) in let tail = b.tails ring below in
    ring_shown first e64 ring words (empty_queue PLACES) 0 is none refl refl (λ number run at. absurd (cc)) (omega arith) (omega arith) (omega arith) (omega arith)
    (λ run from to. let z : get_or words (place_word ring (first + run)) 0 ≡ 0 = b.zeros ring ((first + run) % 64) below ne (omega arith) in record { up = λ up. absurd (cc); low = λ _. omega arith; early = λ _ few. z; late = λ _ many. absurd (omega arith) })

-- the run of one item that a full queue begins with
abbrev single : ℕ → Run
single item = record { call = 0; items = item ∷ [] }

single_long : (start count number : ℕ) (run : Run) → slice_get (map single (range_with_len start count)) number ≡ Some run → length run.items ≡ 1
single_long start zero number run at = absurd (cc)
single_long start (suc count) zero run at = let e : single start ≡ run = cc in sym (ap (λ (r : Run). length r.items) e)
single_long start (suc count) (suc number) run at = single_long (start + 1) count number run at

full_item : (count run : ℕ) → run < count → element_at (full_queue count) run ≡ run
full_item count run below = ap element_of (get_or-map-range_with_len single 0 count run run no_run below (omega arith))

full_raised : (count run : ℕ) → run < count → (full_queue count).raised run 0 ≡ true
full_raised count run below = let t : ltb run count ≡ true = grind (arith, nat_tests) in rw t refl

-- the free elements
full_shows : (first : ℕ) (words : List ℕ) → AreBlank first words → RingShows first e64 1 words
full_shows first words b = let fits = b.fits in let head = b.heads 1 (omega arith) in let tail = b.tails 1 (omega arith) in let long = length-map-range_with_len single 0 64 in
    ring_shown first e64 1 words (full_queue 64) 0 refl refl refl refl (λ number run there. single_long 0 64 number run there) (omega arith) (omega arith) (omega arith) (omega arith)
    (λ run from to. let below : run < 64 = omega arith in record {
      up = λ _. b.items run below ∙ sym (ap (λ (x : ℕ). x + 256 * (first + run + 1)) (full_item 64 run below));
      low = λ low. let up = full_raised 64 run below in absurd (cc);
      early = λ low few. let up = full_raised 64 run below in absurd (cc);
      late = λ low many. absurd (omega arith);
    })

state_shows : (thread : Thread) (word : ℕ) → thread ≡ new_thread → word ≡ 0 → StateShows thread word
state_shows thread word is zero_is = subst (λ (t : Thread). StateShows t word) (sym is) (subst (StateShows new_thread) (sym zero_is) (record {
  bounded = omega arith;
  pending = λ signal below. bit_at-zero signal;
  stop = bit_at-zero 16;
  parked = bit_at-zero 17;
}))

rings_show : (first : ℕ) (words : List ℕ) → AreBlank first words → (ring : ℕ) → ring < RINGS → RingShows first e64 ring words
rings_show first words b zero below = empty_shows first 0 words b below (λ e. omega arith) refl refl
rings_show first words b (suc zero) below = full_shows first words b
rings_show first words b (suc (suc wait)) below = empty_shows first (suc (suc wait)) words b below (λ e. omega arith) (get_or-copies 16 (empty_queue PLACES) wait) (get_or-copies {X = ℕ} 16 0 wait)

first_shows : (first : ℕ) (words : List ℕ) → AreBlank first words → WordsShow first e64 words
first_shows first words b = record {
  wide = b.long;
  threads = length-copies 64 new_thread;
  queues = refl;
  waits = length-copies {X = ℕ} 16 0;
  processors = length-copies 8 no_hold;
  on = λ p below. b.low (processor_word p) (omega arith) (omega arith) ∙ sym (ap processor_shown (get_or-copies 8 no_hold p));
  states = λ x below. state_shows (thread_at e64 x) (get_or words (state_word x) 0) (get_or-copies 64 new_thread x) (b.low (state_word x) (omega arith) (omega arith));
  steps = λ x below. b.low (done_word x) (omega arith) (omega arith) ∙ sym (ap (λ (t : Thread). t.done) (get_or-copies 64 new_thread x));
  few = λ x below. let z : (thread_at e64 x).done ≡ 0 = ap (λ (t : Thread). t.done) (get_or-copies 64 new_thread x) in omega arith;
  rings = rings_show first words b;
  unused = b.unused;
}

first_hand : (key : Shape) → HandIs 0 (newcomer key) e64
first_hand key = hand_idle 0 key.first (repeat 8 (true ∷ [])) true (newcomer key) e64 refl (λ x. refl) (λ p s. slice_get-copies_by 8 no_hold p s)

-- the only entry of a list
only : {V : Type 0} (Q : ℕ → V → Type 0) (w : V) → Q 0 w → (i : ℕ) (u : V) → get_elem? (w ∷ []) i ≡ some u → Q i u
only Q w mine zero u has = subst (Q 0) (some-injective w u has) mine
only Q w mine (suc i) u has = absurd (some-ne-none u (sym has))

-- an empty queue has no run
none_open : (ring run : ℕ) (e : Elements) → ring_at e ring ≡ empty_queue PLACES → IsOpen ring run e → ⊥
none_open ring run e is unraised = let long : length (ring_at e ring).history ≡ 0 = ap (λ (q : Queue). length q.history) is in let below = unraised.0 in absurd (omega arith)

-- each run is raised
all_raised : (ring run : ℕ) → IsOpen ring run e64 → ⊥
all_raised zero run unraised = none_open 0 run e64 refl unraised
all_raised (suc zero) run unraised =
    let long : length (full_queue 64).history ≡ 64 = length-map-range_with_len single 0 64 in let below : run < length (full_queue 64).history = unraised.0 in
    true≢false (sym (full_raised 64 run (omega arith)) ∙ unraised.1)
all_raised (suc (suc wait)) run unraised = none_open (suc (suc wait)) run e64 (get_or-copies 16 (empty_queue PLACES) wait) unraised

first_are : elements_after [] ≡ e64
first_are = elements_of [] ∙ ap (λ (s : State). s.elements) after_none.0

-- no hand has made a step, where the words show one
first_known : (key : Shape) (words : List ℕ) (own : HandState) → get_or words 0 0 ≡ 1 → (o : AreOrdered (of_hands key.first) [] (now_of [] words) (first_of own [] ∷ first_of own [] ∷ [])) × (order_to o ≡ [])
first_known key words own one = let o = order_opened (of_hands key.first) own in
    let t = order_at (of_hands key.first) [] (first_of own [] ∷ first_of own [] ∷ []) (opened []) (now_of [] words) (ap (λ (z : ℕ). record { ends = z; object = [] }) (sym one)) o.0 in (t.0, t.1 ∙ o.1)

pub opens : (key : Shape) (words : List ℕ) → AreBlank key.first words → Rule key (opening words [] (newcomer key))
opens key words b = let w : View = newcomer key in let order = first_known key words w.own b.ends in record {
  events = [];
  allowed = after_none.1;
  shows = subst (λ (e : Elements). WordsShow key.first e words) (sym first_are) (first_shows key.first words b);
  first = only (λ (j : ℕ) (u : View). u.own.first ≡ key.first) w refl;
  seen = only (λ (j : ℕ) (u : View). Seen u []) w (record { schedule = begins_refl []; grows = grows_refl (elements_after []) });
  hands = only (λ (j : ℕ) (u : View). HandIs j u (elements_after [])) w (subst (HandIs 0 w) (sym first_are) (first_hand key));
  sole = λ i j p u v has has' _ _. only (λ (i : ℕ) (u : View). i ≡ 0) w refl i u has ∙ sym (only (λ (j : ℕ) (v : View). j ≡ 0) w refl j v has');
  owned = subst (AllOwned (w ∷ [])) (sym first_are) (λ ring run below unraised. absurd (all_raised ring run unraised));
  strange = λ call element past. subst (λ (e : Elements). holds call element e ≡ false) (sym first_are) refl;
  steady = only (λ (j : ℕ) (u : View). IsSteady u []) w (λ up x low may. refl);
  made = made_first;
  undoubled = only (λ (j : ℕ) (u : View). u.own.doubled ≡ false) w refl;
  ends = subst (λ (c : ℕ). EndsStand (nothing_of key.first) c (w ∷ [])) (sym b.ends) (stand_opened (nothing_of key.first) had_by_both w.own []);
  joined = joined_first w refl refl refl;
  joiner = w;
  are_joins = no_joins;
  order = order.0;
  newest = only (λ (j : ℕ) (u : View). IsNewest u (order_to order.0)) w (λ whole up. order.1);
}
