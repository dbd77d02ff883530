-- What stays shown and known where one element queue and its words change.
use Rattle.thread_table.proofs.Common.{◌≡◌, ◌≢◌, ℕ, zero, suc, ◌+◌, ◌*◌, ◌%◌, ◌<◌, ◌≤◌, false, List, length, set, get_or, Some, None, Option, slice_get, Result, Ok, refl, sym, ap, subst, ◌∙◌, arith, mod-lt, get_or-set_other, length-set, slice_get-get_or, dite, ℕ_discrete, Elements, holds, Queue, empty_queue, change_at, Run, Refusal, Hold, View, Claimed, QueueGrows, Grows, ring_at, thread_at, RINGS, PLACES, NOTIFY, processor_word, state_word, done_word, head_word, tail_word, place_word, WordsShow, RingShows, PlaceShows, StateShows, mark_of, IsClaimed, places_word, ready_ring, AreZero, IsUsed, unused_kept}
use Rattle.thread_table.proofs.Schedule.Schedules.{queue_refl}
use Rattle.thread_table.proofs.Events.Effects.{Leaves}

-- an element queue that is known is shown
pub ring_shown : (first : ℕ) (f : Elements) (l : ℕ) (words : List ℕ) (q : Queue) (mark : ℕ) → ring_at f l ≡ q → mark_of f l ≡ mark → q.capacity ≡ 64 → q.shut ≡ false
    → ((number : ℕ) (run : Run) → slice_get q.history number ≡ Some run → length run.items ≡ 1) → first + length q.history < 4294967296 → mark < 4294967296
    → get_or words (head_word l) 0 ≡ first + length q.history + mark * NOTIFY → get_or words (tail_word l) 0 ≡ first + q.taken
    → ((run : ℕ) → q.taken ≤ run → run < q.taken + 64 → PlaceShows first q run (get_or words (place_word l (first + run)) 0)) → RingShows first f l words
ring_shown first f l words q mark queue is capacity is_open single bounded marked head tail places =
    let long : length (ring_at f l).history ≡ length q.history = ap (λ (r : Queue). length r.history) queue in
    let front : (ring_at f l).taken ≡ q.taken = ap (λ (r : Queue). r.taken) queue in
    record {
      capacity = ap (λ (r : Queue). r.capacity) queue ∙ capacity;
      is_open = ap (λ (r : Queue). r.shut) queue ∙ is_open;
      single = λ number run at. single number run (ap (λ (r : Queue). slice_get r.history number) (sym queue) ∙ at);
      bounded = omega (arith, long, bounded);
      marked = subst (λ n. n < 4294967296) (sym is) marked;
      head = head ∙ omega (arith, long, is);
      tail = tail ∙ omega (arith, front);
      places = λ run a b. subst (λ r. PlaceShows first r run (get_or words (place_word l (first + run)) 0)) (sym queue) (places run (omega arith) (omega arith));
    }

-- an element queue whose words stay is shown as before
pub ring_kept : (first : ℕ) (e f : Elements) (l : ℕ) (words changed : List ℕ) → ring_at f l ≡ ring_at e l → mark_of f l ≡ mark_of e l
    → ((k : ℕ) → head_word l ≤ k → k < places_word l + PLACES → get_or changed k 0 ≡ get_or words k 0) → RingShows first e l words → RingShows first f l changed
ring_kept first e f l words changed queue mark same s = ring_shown first f l changed (ring_at e l) (mark_of e l) queue mark s.capacity s.is_open s.single s.bounded s.marked
    (same (head_word l) (omega arith) (omega arith) ∙ s.head) (same (tail_word l) (omega arith) (omega arith) ∙ s.tail)
    (λ run a b. let near : (first + run) % 64 < 64 = mod-lt (first + run) (omega arith) in let r : ℕ = (first + run) % 64 in
    subst (PlaceShows first (ring_at e l) run) (sym (same (place_word l (first + run)) (omega arith) (omega arith))) (s.places run a b))

-- the elements where queues, notifies and holds changed
abbrev pub with_rings : Elements → List Queue → List ℕ → List Hold → Elements
with_rings e rings notified held = record { threads = e.threads; rings = rings; notified = notified; processors = e.processors; held = held }

-- the marks are those of the notifies
pub same_mark : (e f : Elements) (ring : ℕ) → f.notified ≡ e.notified → mark_of f ring ≡ mark_of e ring
same_mark e f zero same = refl
same_mark e f (suc zero) same = refl
same_mark e f (suc (suc wait)) same = ap (λ (l : List ℕ). get_or l wait 0) same

pub mark_same : (e : Elements) (rings : List Queue) (held : List Hold) (l : ℕ) → mark_of (with_rings e rings e.notified held) l ≡ mark_of e l
mark_same e rings held l = same_mark e (with_rings e rings e.notified held) l refl

-- the words of the element queues change, and what they show of them
pub shows_else : (first : ℕ) (e : Elements) (rings : List Queue) (notified : List ℕ) (held : List Hold) (words changed : List ℕ) → WordsShow first e words → length rings ≡ length e.rings → length notified ≡ length e.notified
    → length changed ≡ length words → ((k : ℕ) → 1 ≤ k → k < head_word ready_ring → get_or changed k 0 ≡ get_or words k 0) → ((l : ℕ) → l < RINGS → RingShows first (with_rings e rings notified held) l changed) → AreZero IsUsed changed → WordsShow first (with_rings e rings notified held) changed
shows_else first e rings notified held words changed s many notes long same shown unused = record {
  wide = long ∙ s.wide;
  threads = s.threads;
  queues = many ∙ s.queues;
  waits = notes ∙ s.waits;
  processors = s.processors;
  on = λ p below. same (processor_word p) (omega arith) (omega arith) ∙ s.on p below;
  states = λ x below. subst (StateShows (thread_at e x)) (sym (same (state_word x) (omega arith) (omega arith))) (s.states x below);
  steps = λ x below. same (done_word x) (omega arith) (omega arith) ∙ s.steps x below;
  few = s.few;
  rings = shown;
  unused = unused;
}

-- a word of an element queue is written, and the other queues stay
pub shows_kept : (first : ℕ) (e : Elements) (rings : List Queue) (notified : List ℕ) (held : List Hold) (ring place word : ℕ) (words : List ℕ) → WordsShow first e words
    → length rings ≡ length e.rings → length notified ≡ length e.notified → ring < RINGS → head_word ring ≤ place → place < places_word ring + PLACES → IsUsed place
    → ((l : ℕ) → l ≢ ring → ring_at (with_rings e rings notified held) l ≡ ring_at e l) → ((l : ℕ) → l ≢ ring → mark_of (with_rings e rings notified held) l ≡ mark_of e l)
    → RingShows first (with_rings e rings notified held) ring (set words place word) → WordsShow first (with_rings e rings notified held) (set words place word)
shows_kept first e rings notified held ring place word words s many notes known from to used other marks mine =
    shows_else first e rings notified held words (set words place word) s many notes (length-set words place word) (λ k low high. get_or-set_other words place k word 0 (λ is. omega arith)) (λ l below. dite (ℕ_discrete l ring)
    (λ is. subst (λ n. RingShows first (with_rings e rings notified held) n (set words place word)) (sym is) mine)
    (λ ne. ring_kept first e (with_rings e rings notified held) l words (set words place word) (other l ne) (marks l ne) (λ k a b. get_or-set_other words place k word 0 (λ is. ne (omega arith))) (s.rings l below))) (unused_kept IsUsed words place word used s.unused)

pub queue_stays : (q r : Queue) → r ≡ q → QueueGrows q r
queue_stays q r same = subst (QueueGrows q) (sym same) (queue_refl q)

-- one queue grew, and the others stay
pub all_grow : (e f : Elements) (ring : ℕ) → QueueGrows (ring_at e ring) (ring_at f ring) → ((l : ℕ) → l ≢ ring → ring_at f l ≡ ring_at e l) → Grows e f
all_grow e f ring mine other l = dite (ℕ_discrete l ring)
    (λ is. subst (λ n. QueueGrows (ring_at e n) (ring_at f n)) (sym is) mine)
    (λ ne. queue_stays (ring_at e l) (ring_at f l) (other l ne))

-- a claimed run stays, where its history and its raised pairs do
pub claim_kept : (call : ℕ) (c : Claimed) (e f : Elements) → slice_get (ring_at f c.ring).history c.run ≡ slice_get (ring_at e c.ring).history c.run
    → (ring_at f c.ring).raised c.run 0 ≡ (ring_at e c.ring).raised c.run 0 → IsClaimed call c e → IsClaimed call c f
claim_kept call c e f runs raised claimed = record { below = claimed.below; known = claimed.known; run = runs ∙ claimed.run; low = raised ∙ claimed.low }

-- an event that changes queues, notifies and holds leaves the rest
pub rings_leave : (id : ℕ) (v : View) (e : Elements) (rings : List Queue) (notified : List ℕ) (held : List Hold) → Grows e (with_rings e rings notified held)
    → ((call element : ℕ) → call ≢ id → holds call element (with_rings e rings notified held) ≡ holds call element e)
    → ((call : ℕ) (c : Claimed) → call ≢ id → IsClaimed call c e → IsClaimed call c (with_rings e rings notified held))
    → Leaves id v e (with_rings e rings notified held)
rings_leave id v e rings notified held grows others runs = record {
  grows = grows;
  held = others;
  processors = λ p no. refl;
  puts = λ call element ne. refl;
  runs = runs;
  steps = λ element no. refl;
}

-- a queue that is there is changed
pub ring_changes : (ring : ℕ) (change : Queue → Result Queue Refusal) (rings : List Queue) (new : Queue) → ring < length rings → change (get_or rings ring (empty_queue PLACES)) ≡ Ok new
    → change_at ring change rings ≡ Ok (set rings ring new)
ring_changes ring change rings new below is = rw (slice_get-get_or rings ring (empty_queue PLACES) below, is) refl

pub none_some : {X : Type 0} {R : Type 0} (x : X) (found : Option X) → found ≡ None → found ≡ Some x → R
none_some x None none some = absurd (cc)
none_some x (Some y) none some = absurd (cc)
