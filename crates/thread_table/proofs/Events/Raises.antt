-- What a raise does.
use Rattle.thread_table.proofs.Common.{by_place, ◌-◌, subst, ◌≡◌, ◌≢◌, inl, ℕ, ◌+◌, ◌*◌, ◌%◌, ◌<◌, ◌≤◌, Bool, true, false, eq-eqb, ne_eqb, List, [], ◌∷◌, length, set, get_or, Some, None, Option, slice_get, Ok, refl, sym, ap, subst, ◌∙◌, arith, mod-lt, true≢false, get_or-set_same, get_or-set_other, slice_get-get_or, slice_get_within, get_or_from_slice_get, dite, ℕ_discrete, Elements, raise_element, Queue, empty_queue, raise, ◌>>=◌, Run, IsLawfulQueue, every_at, View, Claimed, ring_at, element_at, element_of, no_run, RINGS, PLACES, head_word, tail_word, place_word, PlaceShows, IsClaimed, claim_of, raise_event, HasClaimed}
use Rattle.event_theory.specs.Queues.{with_pair, after_raise, raise_of}
use Rattle.thread_table.proofs.Events.Changes.{ringed, hand_holds, ring_effect}
use Rattle.thread_table.proofs.Events.Effects.{with_raise, Effect, May, Anything, becomes, at_ring}
use Rattle.event_theory.specs.declared.event.Event.TheVariants as events
use Rattle.thread_table.proofs.Shown.QueueWords.{ring_changes}
use Rattle.thread_table.proofs.Events.Owing.{QueueOwes}
use Rattle.thread_table.proofs.Events.SingleRuns.{within_room, low_ahead, places_apart}

-- the call of a run that was found
abbrev call_in : Option Run → ℕ
call_in None = 0
call_in (Some run) = run.call

abbrev after : Elements → ℕ → ℕ → Elements
after e ring run = ringed e ring (after_raise run 0 (ring_at e ring)) e.held

raise_is : (id run element : ℕ) (q : Queue) → slice_get q.history run ≡ Some (record { call = id; items = element ∷ [] }) → q.raised run 0 ≡ false → raise id run 0 q ≡ Ok (after_raise run 0 q)
raise_is id run element q at low = ap (raise_of id run 0 q) at ∙ rw (eq-eqb id id refl, low) refl

goes : (id : ℕ) (e : Elements) (ring run element : ℕ) → ring < length e.rings → slice_get (ring_at e ring).history run ≡ Some (record { call = id; items = element ∷ [] })
    → (ring_at e ring).raised run 0 ≡ false → raise_element ring id run 0 e ≡ Ok (after e ring run)
goes id e ring run element below at low =
    ap (λ said. said >>= λ rings. Ok (record e { rings = rings })) (ring_changes ring (raise id run 0) e.rings (after_raise run 0 (ring_at e ring)) below (raise_is id run element (ring_at e ring) at low))

raised_now : (run : ℕ) (pairs : ℕ → ℕ → Bool) → with_pair run 0 pairs run 0 ≡ true
raised_now run pairs = rw (eq-eqb run run refl) refl

raised_else : (run : ℕ) (pairs : ℕ → ℕ → Bool) (r : ℕ) → r ≢ run → with_pair run 0 pairs r 0 ≡ pairs r 0
raised_else run pairs r ne = rw (ne_eqb r run ne) refl

raised_on : (run : ℕ) (pairs : ℕ → ℕ → Bool) (r : ℕ) → pairs r 0 ≡ true → with_pair run 0 pairs r 0 ≡ true
raised_on run pairs r up = dite (ℕ_discrete r run)
    (λ is. subst (λ n. with_pair run 0 pairs n 0 ≡ true) (sym is) (raised_now run pairs))
    (λ ne. raised_else run pairs r ne ∙ up)

-- what the run's own place says after the raise
place_now : (first : ℕ) (q : Queue) (run element : ℕ) → element_at q run ≡ element → PlaceShows first (after_raise run 0 q) run (element + 256 * (first + run + 1))
place_now first q run element is = record {
  up = λ up. omega (arith, is);
  low = λ low. absurd (true≢false (sym (raised_now run q.raised) ∙ low));
  early = λ low few. absurd (true≢false (sym (raised_now run q.raised) ∙ low));
  late = λ low many. absurd (true≢false (sym (raised_now run q.raised) ∙ low));
}

-- what the place of another run says
place_else : (first : ℕ) (q : Queue) (run r word : ℕ) → r ≢ run → PlaceShows first q r word → PlaceShows first (after_raise run 0 q) r word
place_else first q run r word ne s = record {
  up = λ up. s.up (sym (raised_else run q.raised r ne) ∙ up);
  low = λ low. s.low (sym (raised_else run q.raised r ne) ∙ low);
  early = λ low few. s.early (sym (raised_else run q.raised r ne) ∙ low) few;
  late = λ low many. s.late (sym (raised_else run q.raised r ne) ∙ low) many;
}

places_after : (first : ℕ) (q : Queue) (ring run element : ℕ) (words : List ℕ) → element_at q run ≡ element → q.taken ≤ run → run < q.taken + 64 → place_word ring (first + run) < length words
    → ((r : ℕ) → q.taken ≤ r → r < q.taken + 64 → PlaceShows first q r (get_or words (place_word ring (first + r)) 0))
    → (r : ℕ) → q.taken ≤ r → r < q.taken + 64 → PlaceShows first (after_raise run 0 q) r (get_or (set words (place_word ring (first + run)) (element + 256 * (first + run + 1))) (place_word ring (first + r)) 0)
places_after first q ring run element words is from to wide s r a b = dite (ℕ_discrete r run)
    (λ same. subst (λ n. PlaceShows first (after_raise run 0 q) n (get_or (set words (place_word ring (first + run)) (element + 256 * (first + run + 1))) (place_word ring (first + n)) 0)) (sym same)
    (subst (PlaceShows first (after_raise run 0 q) run) (sym (get_or-set_same words (place_word ring (first + run)) (element + 256 * (first + run + 1)) 0 wide)) (place_now first q run element is)))
    (λ ne. let other = places_apart first q.taken r run a b from to ne in
    subst (PlaceShows first (after_raise run 0 q) r) (sym (get_or-set_other words (place_word ring (first + run)) (place_word ring (first + r)) (element + 256 * (first + run + 1)) 0 (λ e. other (omega arith))))
    (place_else first q run r _ ne (s r a b)))

-- the ring and the run of a claim
abbrev ring_in : Option Claimed → ℕ
ring_in None = 0
ring_in (Some c) = c.ring

abbrev run_in : Option Claimed → ℕ
run_in None = 0
run_in (Some c) = c.run

-- the hand's run is raised, and the others of its queue aren't the hand's
raised_owes : (v w : View) (ring run element : ℕ) (q : Queue) → v.own.claimed ≡ Some (claim_of ring run element) → QueueOwes v w ring q (after_raise run 0 q)
raised_owes v w ring run element q claimed r below low =
    let ne : r ≢ run = λ is. true≢false (sym (raised_now run q.raised) ∙ (ap (λ (n : ℕ). with_pair run 0 q.raised n 0) (sym is) ∙ low)) in
    inl ((below, sym (raised_else run q.raised r ne) ∙ low), refl, λ is. ne (ap run_in (sym is ∙ claimed)))

-- nor are those of another queue
others_owe : (v w : View) (ring run element l : ℕ) (q : Queue) → v.own.claimed ≡ Some (claim_of ring run element) → l ≢ ring → QueueOwes v w l q q
others_owe v w ring run element l q claimed ne r below low = inl ((below, low), refl, λ is. ne (ap ring_in (sym is ∙ claimed)))

-- the place that the hand has claimed is raised
pub may_raise : (id : ℕ) (v : View) (ring position element new : ℕ) → HasClaimed v ring position element → new ≡ element + 256 * (position + 1) → May id v (raise_event id v ring position) (place_word ring position) Anything (λ x. new)
may_raise id v ring position element new claimed is = let run : ℕ = position - v.own.first in record {
  change = raise_element ring id run 0;
  is = λ t. at_ring (λ q. events.Raise id q run 0) (λ r. raise_element r id run 0) ring t refl refl (λ w. refl);
  plain = refl;
  inside = omega arith;
  goes = λ first same e words ready any. let later = claimed.1 in let spot : first + run ≡ position = omega arith in
      let q : Queue = ring_at e ring in let new : Queue = after_raise run 0 q in let place : ℕ = place_word ring (first + run) in let value : ℕ = element + 256 * (first + run + 1) in
      let mine : IsClaimed id (claim_of ring run element) e = ready.hand.claimed (claim_of ring run element) claimed.0 in
      let known : ring < RINGS = mine.below in let shows = ready.shows.rings ring known in let wide = ready.shows.wide in
      let below : ring < length e.rings = omega (arith, ready.shows.queues) in
      let lawful : IsLawfulQueue q = every_at IsLawfulQueue e.rings ring q (slice_get-get_or e.rings ring (empty_queue PLACES) below) ready.lawful.rings in
      let near : (first + run) % 64 < 64 = mod-lt (first + run) (omega arith) in
      let ahead : q.taken ≤ run = low_ahead q run lawful shows.single mine.low in let inside : run < length q.history = slice_get_within q.history run _ mine.run in
      becomes words _ (sym is) (subst (λ (p : ℕ). Effect id v (with_raise v) first (raise_element ring id run 0) e (set words (place_word ring p) (element + 256 * (p + 1)))) spot
      (ring_effect id v (with_raise v) first (raise_element ring id run 0) e words ring new e.held place value known ready (goes id e ring run element below mine.run mine.low) record {
        grows = record { longer = omega arith; further = omega arith; items = λ r low. refl; raised = λ r up. raised_on run q.raised r up };
        others = λ call x other. refl;
        runs = λ call c other is. (
          refl,
          raised_else run q.raised c.run (λ same. other (
              let both : Some (record { call = call; items = c.element ∷ [] }) ≡ Some (record { call = id; items = element ∷ [] }) = sym is.run ∙ (ap (slice_get q.history) same ∙ mine.run) in
              ap (λ (o : Option Run). call_in o) both)),
        );
        hand = λ here. hand_holds id v e (after e ring run) v.own.held None ready.hand refl refl ready.hand.held (λ c at. absurd (cc));
        from = omega arith;
        to = omega arith;
        used = by_place ring (first + run) known refl;
        capacity = shows.capacity;
        is_open = shows.is_open;
        single = shows.single;
        bounded = shows.bounded;
        head = get_or-set_other words place (head_word ring) value 0 (λ is. omega arith) ∙ shows.head;
        tail = get_or-set_other words place (tail_word ring) value 0 (λ is. omega arith) ∙ shows.tail;
        places = places_after first q ring run element words (ap element_of (get_or_from_slice_get q.history run _ no_run mine.run)) ahead (omega (arith, (within_room q 64 lawful shows.single shows.capacity).1, inside)) (omega arith) shows.places;
        owes = raised_owes v (with_raise v) ring run element q claimed.0;
        owes_else = λ l ne. others_owe v (with_raise v) ring run element l (ring_at e l) claimed.0 ne;
      }));
}
