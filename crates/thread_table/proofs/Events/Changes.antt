-- The result of an event that changes one element queue and the holds; or threads, processors and holds.
use Rattle.thread_table.proofs.Common.{IsUsed, by_done, by_state, unused_kept, ◌≡◌, ◌≢◌, ℕ, ◌+◌, ◌*◌, ◌<◌, ◌≤◌, Bool, false, List, length, set, get_or, slice_get, Some, Option, Result, Ok, refl, sym, ap, subst, ◌∙◌, length-set, get_or-set_same, get_or-set_other, arith, ⊎_elim, ◌⊎◌, inl, None, list_any, dite, ℕ_discrete, Elements, Thread, is_hold, is_put, holds, new_thread, Queue, empty_queue, Hold, Refusal, View, Claimed, QueueGrows, ring_at, thread_at, PROCESSORS, ELEMENTS, RINGS, PLACES, NOTIFY, processor_word, state_word, done_word, head_word, tail_word, place_word, PlaceShows, StateShows, processor_shown, mark_of, HandIs, IsClaimed, may_step, serves, having, places_word, ready_ring}
use Rattle.thread_table.proofs.Events.Effects.{Effect, Ready}
use Rattle.thread_table.proofs.Events.Owing.{QueueOwes, ring_owes, same_owes}
use Rattle.thread_table.proofs.Events.SingleRuns.{Singles}
use Rattle.thread_table.proofs.Shown.QueueWords.{shows_kept, with_rings, mark_same, ring_shown, all_grow, claim_kept, rings_leave, none_some}
use Rattle.thread_table.proofs.Shown.Outside.{with_parts, no_growth, ring_outside}
use Rattle.thread_table.proofs.Hands.HeldLists.{read_set}

-- what a hand has then is what its call has, where its processors stay
pub hand_holds : (id : ℕ) (v : View) (e f : Elements) (held : List Bool) (claimed : Option Claimed) → HandIs id v e → f.processors ≡ e.processors → length held ≡ length v.own.held → ((x : ℕ) → holds id x f ≡ get_or held x false)
    → ((c : Claimed) → claimed ≡ Some c → IsClaimed id c f) → HandIs id (having v (record v.own { held = held; claimed = claimed })) f
hand_holds id v e f held claimed h same long has runs = record {
  held_long = long ∙ h.held_long;
  serves_long = h.serves_long;
  on_long = h.on_long;
  held = has;
  on = λ p up. ap (λ (z : List (Option Hold)). slice_get z p) same ∙ h.on p up;
  off = h.off;
  claimed = runs;
  counted = λ c is. absurd (cc);
}

-- the elements with another queue in this place, and other holds
abbrev pub ringed : Elements → ℕ → Queue → List Hold → Elements
ringed e ring new held = with_rings e (set e.rings ring new) e.notified held

-- one queue becomes another, the call's holds change, and a word of the queue is written
pub record Turns (id : ℕ) (v w : View) (first : ℕ) (e : Elements) (words : List ℕ) (ring : ℕ) (new : Queue) (held : List Hold) (place word : ℕ) : Type 0 where
  pub grows : QueueGrows (ring_at e ring) new
  pub others : (call x : ℕ) → call ≢ id → list_any (is_hold call x) held ≡ list_any (is_hold call x) e.held
  -- the runs of other calls stay
  pub runs : (call : ℕ) (c : Claimed) → call ≢ id → IsClaimed call (record c { ring = ring }) e → (slice_get new.history c.run ≡ slice_get (ring_at e ring).history c.run) × (new.raised c.run 0 ≡ (ring_at e ring).raised c.run 0)
  pub hand : ring_at (ringed e ring new held) ring ≡ new → HandIs id w (ringed e ring new held)
  pub from : head_word ring ≤ place
  pub to : place < places_word ring + PLACES
  pub used : IsUsed place
  pub capacity : new.capacity ≡ PLACES
  pub is_open : new.shut ≡ false
  pub single : Singles new.history
  pub bounded : first + length new.history < 4294967296
  pub head : get_or (set words place word) (head_word ring) 0 ≡ first + length new.history + mark_of e ring * NOTIFY
  pub tail : get_or (set words place word) (tail_word ring) 0 ≡ first + new.taken
  pub places : (run : ℕ) → new.taken ≤ run → run < new.taken + 64 → PlaceShows first new run (get_or (set words place word) (place_word ring (first + run)) 0)
  pub owes : QueueOwes v w ring (ring_at e ring) new
  pub owes_else : (l : ℕ) → l ≢ ring → QueueOwes v w l (ring_at e l) (ring_at e l)

pub ring_effect : (id : ℕ) (v w : View) (first : ℕ) (event : Elements → Result Elements Refusal) (e : Elements) (words : List ℕ) (ring : ℕ) (new : Queue) (held : List Hold) (place word : ℕ) → ring < RINGS → Ready id v first e words
    → event e ≡ Ok (ringed e ring new held) → Turns id v w first e words ring new held place word → Effect id v w first event e (set words place word)
ring_effect id v w first event e words ring new held place word known ready goes t = record {
  f = f;
  goes = goes;
  leaves = rings_leave id v e rings e.notified held (all_grow e f ring (subst (QueueGrows (ring_at e ring)) (sym here) t.grows) elsewhere) t.others runs;
  hand = t.hand here;
  shows = shows_kept first e rings e.notified held ring place word words ready.shows (length-set e.rings ring new) refl known t.from t.to t.used elsewhere (λ l ne. mark_same e rings held l)
      (ring_shown first f ring (set words place word) new (mark_of e ring) here (mark_same e rings held ring) t.capacity t.is_open t.single t.bounded (ready.shows.rings ring known).marked t.head t.tail t.places);
  owes = ring_owes v w e f ring new here elsewhere t.owes t.owes_else;
}
  where
    rings : List Queue
    rings = set e.rings ring new

    f : Elements
    f = ringed e ring new held

    here : ring_at f ring ≡ new
    here = get_or-set_same e.rings ring new (empty_queue PLACES) (subst (λ n. ring < n) (sym ready.shows.queues) known)

    elsewhere : (l : ℕ) → l ≢ ring → ring_at f l ≡ ring_at e l
    elsewhere l ne = get_or-set_other e.rings ring l new (empty_queue PLACES) ne

    runs : (call : ℕ) (c : Claimed) → call ≢ id → IsClaimed call c e → IsClaimed call c f
    runs call c other claimed = dite (ℕ_discrete c.ring ring)
        (λ same. let now : ring_at f c.ring ≡ new = ap (ring_at f) same ∙ here in let was : ring_at e c.ring ≡ ring_at e ring = ap (ring_at e) same in
        let stays = t.runs call c other (subst (λ (r : ℕ). IsClaimed call (record c { ring = r }) e) same claimed) in
        claim_kept call c e f (ap (λ (r : Queue). slice_get r.history c.run) now ∙ (stays.0 ∙ ap (λ (r : Queue). slice_get r.history c.run) (sym was)))
        (ap (λ (r : Queue). r.raised c.run 0) now ∙ (stays.1 ∙ ap (λ (r : Queue). r.raised c.run 0) (sym was))) claimed)
        (λ ne. claim_kept call c e f (ap (λ (r : Queue). slice_get r.history c.run) (elsewhere c.ring ne)) (ap (λ (r : Queue). r.raised c.run 0) (elsewhere c.ring ne)) claimed)

-- threads, processors and holds become others, of those of the call, and a word of these is written
pub record Parts (id : ℕ) (v : View) (e : Elements) (words : List ℕ) (threads : List Thread) (processors : List (Option Hold)) (held : List Hold) (place word : ℕ) : Type 0 where
  pub others : (call x : ℕ) → call ≢ id → list_any (is_hold call x) held ≡ list_any (is_hold call x) e.held
  pub strange : (p : ℕ) → serves v p ≡ false → slice_get processors p ≡ slice_get e.processors p
  pub puts : (call x : ℕ) → call ≢ id → list_any (is_put call x) processors ≡ list_any (is_put call x) e.processors
  pub counts : (x : ℕ) → may_step id x e ≡ false → (get_or threads x new_thread).done ≡ (thread_at e x).done
  pub inside : place < head_word ready_ring
  pub used : IsUsed place
  pub many : length threads ≡ length e.threads
  pub seats : length processors ≡ length e.processors
  pub on : (p : ℕ) → p < PROCESSORS → get_or (set words place word) (processor_word p) 0 ≡ processor_shown (get_or processors p None)
  pub states : (x : ℕ) → x < ELEMENTS → StateShows (get_or threads x new_thread) (get_or (set words place word) (state_word x) 0)
  pub steps : (x : ℕ) → x < ELEMENTS → get_or (set words place word) (done_word x) 0 ≡ (get_or threads x new_thread).done
  pub few : (x : ℕ) → x < ELEMENTS → (get_or threads x new_thread).done < 4294967296

pub parts_effect : (id : ℕ) (v w : View) (first : ℕ) (event : Elements → Result Elements Refusal) (e : Elements) (words : List ℕ) (threads : List Thread) (processors : List (Option Hold)) (held : List Hold) (place word : ℕ)
    → Ready id v first e words → v.own.claimed ≡ None → event e ≡ Ok (with_parts e threads processors held) → HandIs id w (with_parts e threads processors held) → Parts id v e words threads processors held place word
    → Effect id v w first event e (set words place word)
parts_effect id v w first event e words threads processors held place word ready free goes hand p = record {
  f = with_parts e threads processors held;
  goes = goes;
  leaves = record {
    grows = no_growth e threads processors held;
    held = p.others;
    processors = p.strange;
    puts = p.puts;
    runs = λ call c other is. record { below = is.below; known = is.known; run = is.run; low = is.low };
    steps = p.counts;
  };
  hand = hand;
  shows = record {
    wide = length-set words place word ∙ ready.shows.wide;
    threads = p.many ∙ ready.shows.threads;
    queues = ready.shows.queues;
    waits = ready.shows.waits;
    processors = p.seats ∙ ready.shows.processors;
    on = p.on;
    states = p.states;
    steps = p.steps;
    few = p.few;
    rings = λ ring low. ring_outside e threads processors held first ring words place word p.inside (ready.shows.rings ring low);
    unused = unused_kept IsUsed words place word p.used ready.shows.unused;
  };
  owes = same_owes v w e (with_parts e threads processors held) free (λ ring. refl);
}

-- one thread becomes another, whose word of the state or of the steps is written
pub thread_effect : (id : ℕ) (v w : View) (first : ℕ) (event : Elements → Result Elements Refusal) (e : Elements) (words : List ℕ) (element : ℕ) (new : Thread) (held : List Hold) (place word : ℕ)
    → Ready id v first e words → v.own.claimed ≡ None → element < ELEMENTS → event e ≡ Ok (with_parts e (set e.threads element new) e.processors held) → HandIs id w (with_parts e (set e.threads element new) e.processors held)
    → ((call x : ℕ) → call ≢ id → list_any (is_hold call x) held ≡ list_any (is_hold call x) e.held) → (may_step id element e ≡ false → new.done ≡ (thread_at e element).done) → (place ≡ state_word element) ⊎ (place ≡ done_word element)
    → StateShows new (get_or (set words place word) (state_word element) 0) → get_or (set words place word) (done_word element) 0 ≡ new.done → new.done < 4294967296 → Effect id v w first event e (set words place word)
thread_effect id v w first event e words element new held place word ready free known goes hand others counts at state done few = parts_effect id v w first event e words (set e.threads element new) e.processors held place word ready free goes hand record {
  others = others;
  strange = λ p up. refl;
  puts = λ call x other. refl;
  counts = λ x. read_set (λ k (t : Thread). may_step id k e ≡ false → t.done ≡ (thread_at e k).done) e.threads element new new_thread within counts x (λ apart may. refl);
  inside = ⊎_elim (λ is. omega arith) (λ is. omega arith) at;
  used = ⊎_elim (λ is. by_state element known is) (λ is. by_done element known is) at;
  many = length-set e.threads element new;
  seats = refl;
  on = λ p low. else (processor_word p) (λ is. omega arith) (λ is. omega arith) ∙ ready.shows.on p low;
  states = λ x low. read_set (λ k (t : Thread). StateShows t (get_or (set words place word) (state_word k) 0)) e.threads element new new_thread within state x
      (λ apart. subst (StateShows (thread_at e x)) (sym (else (state_word x) (λ is. apart (omega arith)) (λ is. omega arith))) (ready.shows.states x low));
  steps = λ x low. read_set (λ k (t : Thread). get_or (set words place word) (done_word k) 0 ≡ t.done) e.threads element new new_thread within done x
      (λ apart. else (done_word x) (λ is. omega arith) (λ is. apart (omega arith)) ∙ ready.shows.steps x low);
  few = λ x low. read_set (λ k (t : Thread). t.done < 4294967296) e.threads element new new_thread within few x (λ apart. ready.shows.few x low);
}
  where
    within : element < length e.threads
    within = subst (λ n. element < n) (sym ready.shows.threads) known

    -- the other words stay
    else : (other : ℕ) → other ≢ state_word element → other ≢ done_word element → get_or (set words place word) other 0 ≡ get_or words other 0
    else other s d = get_or-set_other words place other word 0 (λ is. ⊎_elim (λ a. s (is ∙ a)) (λ a. d (is ∙ a)) at)

-- the same of the word of its state, where its steps stay, and the hand then holds this
pub state_effect : (id : ℕ) (v : View) (first : ℕ) (event : Elements → Result Elements Refusal) (e : Elements) (words : List ℕ) (element word : ℕ) (new : Thread) (held : List Hold) (has : List Bool)
    → Ready id v first e words → v.own.claimed ≡ None → element < ELEMENTS → event e ≡ Ok (with_parts e (set e.threads element new) e.processors held) → new.done ≡ (thread_at e element).done → StateShows new word
    → ((call x : ℕ) → call ≢ id → list_any (is_hold call x) held ≡ list_any (is_hold call x) e.held) → length has ≡ length v.own.held → ((x : ℕ) → list_any (is_hold id x) held ≡ get_or has x false)
    → Effect id v (having v (record v.own { held = has })) first event e (set words (state_word element) word)
state_effect id v first event e words element word new held has ready free known goes same state others long holds = let wide = ready.shows.wide in
    thread_effect id v (having v (record v.own { held = has })) first event e words element new held (state_word element) word ready free known goes
    (hand_holds id v e (with_parts e (set e.threads element new) e.processors held) has v.own.claimed ready.hand refl long holds (λ c is. none_some c v.own.claimed free is))
    others (λ may. same) (inl refl)
    (subst (StateShows new) (sym (get_or-set_same words (state_word element) word 0 (omega arith))) state)
    (get_or-set_other words (state_word element) (done_word element) word 0 (λ is. omega arith) ∙ (ready.shows.steps element known ∙ sym same))
    (subst (λ n. n < 4294967296) (sym same) (ready.shows.few element known))
