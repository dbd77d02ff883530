-- A claim of one element that its call held, in the ready ring, among the free elements, or in a wait queue.
use Rattle.thread_table.proofs.Common.{◌-◌, by_head, NOTIFY, ◌/◌, ◌%◌, ◌≡◌, ℕ, zero, suc, ◌+◌, ◌*◌, ◌<◌, ◌≤◌, true, false, List, [], ◌∷◌, ◌++◌, ◌∙◌, length, set, get_or, refl, sym, ap, subst, arith, Some, None, slice_get, eqb, ◌⊎◌, inl, inr, Result, Ok, cases_lt, false_from_ne_true, nat_tests, slice_get-get_or, Run, Queue, empty_queue, left, claim, Elements, hold, let_go, claim_element, new_thread, wait_at, IsLawfulQueue, IsLawfulElements, Hold, Refusal, in_hands, every_at, View, Claimed, QueueGrows, ring_at, thread_at, element_at, element_of, no_run, ELEMENTS, RINGS, PLACES, head_word, tail_word, place_word, wait_ring, WordsShow, PlaceShows, head_shown, mark_of, IsClaimed, has, claim_of, claim_event, WAITS}
use Rattle.std.proofs.Common.{leb}
use Rattle.std.proofs.lemmas.Bool.{eq-eqb}
use Rattle.std.proofs.lemmas.Option.{same_Some}
use Rattle.std.proofs.lemmas.List.{length-set, length-append, get_or-set_same, get_or-set_other, get_or_append_left}
use Rattle.std.proofs.Math.Seq.{get_or-append_seam}
use Rattle.event_theory.specs.Queues.{after_claim}
use Rattle.table_theory.proofs.QueueEvents.{claim_goes}
use Rattle.thread_table.proofs.Events.Effects.{with_claim, Effect, Ready, May, becomes, ring_is, at_ring}
use Rattle.event_theory.specs.declared.event.Event.TheVariants as events
use Rattle.thread_table.proofs.Events.Owing.{QueueOwes, queue_owes}
use Rattle.thread_table.proofs.Shown.QueueWords.{none_some}
use Rattle.thread_table.proofs.Events.Changes.{ringed, hand_holds, ring_effect}
use Rattle.thread_table.proofs.Events.SingleRuns.{Singles, raised_known, within_room}
use Rattle.thread_table.proofs.Hands.HeldLists.{held_set}
use Rattle.thread_table.proofs.Hands.Releases.{hold_else, hold_own}
use Rattle.thread_table.proofs.Events.Rooms.{room, out_of_hands, unheld, let_go_goes}

-- an entry at an index is still there after one entry more
later_at : {X : Type 0} (xs : List X) (y : X) (index : ℕ) (x : X) → slice_get xs index ≡ Some x → slice_get (xs ++ y ∷ []) index ≡ Some x
later_at [] y index x at = absurd (cc)
later_at (z ∷ xs) y zero x at = at
later_at (z ∷ xs) y (suc index) x at = later_at xs y index x at

last_at : {X : Type 0} (xs : List X) (y : X) → slice_get (xs ++ y ∷ []) (length xs) ≡ Some y
last_at [] y = refl
last_at (z ∷ xs) y = last_at xs y

one_more_single : (history : List Run) (new : Run) → Singles history → length new.items ≡ 1 → Singles (history ++ new ∷ [])
one_more_single [] new single is zero run at = ap (λ (r : Run). length r.items) (sym (same_Some new run at)) ∙ is
one_more_single [] new single is (suc number) run at = absurd (cc)
one_more_single (old ∷ history) new single is zero run at = single zero run at
one_more_single (old ∷ history) new single is (suc number) run at = one_more_single history new (λ n r. single (suc n) r) is number run at

-- the runs that a queue had are its runs after a claim
same_element : (id element : ℕ) (q : Queue) (run : ℕ) → run < length q.history → element_at (after_claim id (element ∷ []) q) run ≡ element_at q run
same_element id element q run below =
    let new : Run = record { call = id; items = element ∷ [] } in
    ap element_of (get_or_append_left q.history (new ∷ []) no_run run below)

longer : (id element : ℕ) (q : Queue) → length (after_claim id (element ∷ []) q).history ≡ length q.history + 1
longer id element q = let new : Run = record { call = id; items = element ∷ [] } in length-append q.history (new ∷ [])

claim_grows : (id element : ℕ) (q : Queue) → QueueGrows q (after_claim id (element ∷ []) q)
claim_grows id element q = record {
  longer = omega (arith, longer id element q);
  further = omega arith;
  items = λ run below. same_element id element q run below;
  raised = λ run up. up;
}

claim_places : (first id element : ℕ) (q : Queue) (run word : ℕ) → IsLawfulQueue q → run < length q.history + 64 → PlaceShows first q run word → PlaceShows first (after_claim id (element ∷ []) q) run word
claim_places first id element q run word lawful near shows = record {
  up = λ is. shows.up is ∙ ap (λ x. x + 256 * (first + run + 1)) (sym (same_element id element q run (raised_known q run lawful is)));
  low = shows.low;
  early = shows.early;
  late = λ low many. shows.late low many ∙ ap (λ x. x + 256 * (first + (run - 64) + 1)) (sym (same_element id element q (run - 64) (omega arith)));
}

-- the call lets the element go
abbrev Lets : ℕ → ℕ → Elements → List Hold → Type 0
Lets id element e rest = let_go id element e.held ≡ Ok rest

-- the queue takes the run
ring_claims : (id element ring : ℕ) (rest : List Hold) (e : Elements) (first : ℕ) (words : List ℕ) → ring < RINGS → IsLawfulElements e → WordsShow first e words → Lets id element e rest
    → (slice_get e.rings ring ≡ Some (ring_at e ring)) × (claim 1 id (element ∷ []) (ring_at e ring) ≡ Ok (after_claim id (element ∷ []) (ring_at e ring)))
ring_claims id element ring rest e first words below lawful shows lets =
    let q : Queue = ring_at e ring in
    let at : slice_get e.rings ring ≡ Some q = slice_get-get_or e.rings ring (empty_queue PLACES) (omega (arith, shows.queues)) in
    let l = shows.rings ring below in
    let space : length (left q) + 1 ≤ 64 = omega (arith, room id element ring e q rest lawful at lets, shows.threads) in
    (at, claim_goes 1 id (element ∷ []) q (omega arith) (omega arith) l.is_open (omega (arith, l.capacity, space)))

claim_ok : (id element ring : ℕ) (rest : List Hold) (e : Elements) → element < length e.threads → slice_get e.rings ring ≡ Some (ring_at e ring)
    → claim 1 id (element ∷ []) (ring_at e ring) ≡ Ok (after_claim id (element ∷ []) (ring_at e ring)) → Lets id element e rest
    → claim_element ring id (element ∷ []) e ≡ Ok (ringed e ring (after_claim id (element ∷ []) (ring_at e ring)) rest)
claim_ok id element ring rest e known at claims lets =
    let low : leb (length e.threads) element ≡ false = grind (arith, nat_tests) in
    rw (low, at, claims, lets) refl

wait_ok : (id element wait ticket : ℕ) (rest : List Hold) (e : Elements) → element < length e.threads → wait < length e.notified → get_or e.notified wait 0 ≡ ticket
    → slice_get e.rings (wait_ring wait) ≡ Some (ring_at e (wait_ring wait))
    → claim 1 id (element ∷ []) (ring_at e (wait_ring wait)) ≡ Ok (after_claim id (element ∷ []) (ring_at e (wait_ring wait))) → Lets id element e rest
    → wait_at id wait element ticket e ≡ Ok (ringed e (wait_ring wait) (after_claim id (element ∷ []) (ring_at e (wait_ring wait))) rest)
wait_ok id element wait ticket rest e known inside same at claims lets =
    let a : slice_get e.threads element ≡ Some (thread_at e element) = slice_get-get_or e.threads element new_thread known in
    let b : slice_get e.notified wait ≡ Some (get_or e.notified wait 0) = slice_get-get_or e.notified wait 0 inside in
    let c : eqb (get_or e.notified wait 0) ticket ≡ true = eq-eqb (get_or e.notified wait 0) ticket same in
    rw (a, b, lets, c, at, claims) refl

-- the new run is the hand's claim
run_owes : (v w : View) (id element ring : ℕ) (q : Queue) → v.own.claimed ≡ None → w.own.claimed ≡ Some (claim_of ring (length q.history) element) → QueueOwes v w ring q (after_claim id (element ∷ []) q)
run_owes v w id element ring q none claims run below low = by (cases_lt run (length q.history))
  where
    new : Run
    new = record { call = id; items = element ∷ [] }

    by : (run < length q.history) ⊎ (length q.history ≤ run)
        → (((run < length q.history) × (q.raised run 0 ≡ false)) × (element_at (after_claim id (element ∷ []) q) run ≡ element_at q run) × (v.own.claimed ≡ Some (claim_of ring run (element_at q run)) → ⊥))
        ⊎ (w.own.claimed ≡ Some (claim_of ring run (element_at (after_claim id (element ∷ []) q) run)))
    by (inl older) = inl ((older, low), same_element id element q run older, λ is. none_some _ v.own.claimed none is)
    by (inr past) =
        let last : run ≡ length q.history = omega (arith, past, below, longer id element q) in
        let its : element_at (after_claim id (element ∷ []) q) (length q.history) ≡ element = ap element_of (get_or-append_seam q.history new [] no_run) in
        inr (subst (λ (n : ℕ). w.own.claimed ≡ Some (claim_of ring n (element_at (after_claim id (element ∷ []) q) n))) (sym last) (claims ∙ ap (λ (x : ℕ). Some (claim_of ring (length q.history) x)) (sym its)))

-- an event that goes as the claim does has its effect
effect_of : (id : ℕ) (v : View) (first : ℕ) (e : Elements) (words : List ℕ) (ring element : ℕ) (event : Elements → Result Elements Refusal) → Ready id v first e words → v.own.claimed ≡ None → ring < RINGS → element < ELEMENTS → has v element ≡ true
    → first + length (ring_at e ring).history + 1 < 4294967296
    → ((rest : List Hold) → slice_get e.rings ring ≡ Some (ring_at e ring) → claim 1 id (element ∷ []) (ring_at e ring) ≡ Ok (after_claim id (element ∷ []) (ring_at e ring)) → Lets id element e rest
    → event e ≡ Ok (ringed e ring (after_claim id (element ∷ []) (ring_at e ring)) rest))
    → Effect id v (with_claim v e ring element) first event e (set words (head_word ring) (head_shown first e ring + 1))
effect_of id v first e words ring element event ready idle below known held bounded goes =
    let gone = let_go_goes id element e.held (ready.hand.held element ∙ held) in
    let claims = ring_claims id element ring gone.0 e first words below ready.lawful ready.shows gone.1 in
    let q : Queue = ring_at e ring in let new : Queue = after_claim id (element ∷ []) q in let run : Run = record { call = id; items = element ∷ [] } in let f : Elements = ringed e ring new gone.0 in
    let shows = ready.shows.rings ring below in let wide = ready.shows.wide in let more = longer id element q in let value : ℕ = head_shown first e ring + 1 in
    let lawful : IsLawfulQueue q = every_at IsLawfulQueue e.rings ring q claims.0 ready.lawful.rings in
    let none : in_hands element gone.0 ≡ 0 = out_of_hands id element e gone.0 ready.lawful (omega (arith, ready.shows.threads)) gone.1 in
    ring_effect id v (with_claim v e ring element) first event e words ring new gone.0 (head_word ring) value below ready (goes gone.0 claims.0 claims.1 gone.1) record {
      grows = record { longer = omega (arith, more); further = omega arith; items = λ n low. same_element id element q n low; raised = λ n up. up };
      others = λ call x other. gone.2 call x (hold_else id element call x (hold id element) (hold_own id element) (inl other));
      runs = λ call c other is. (later_at q.history run c.run _ is.run ∙ sym is.run, refl);
      hand = λ here. hand_holds id v e f (set v.own.held element false) (Some (claim_of ring (length q.history) element)) ready.hand refl (length-set v.own.held element false)
          (held_set id v e f element false ready.hand known (unheld id element gone.0 none) (λ x apart. gone.2 id x (hold_else id element id x (hold id element) (hold_own id element) (inr apart))))
          (λ c is. subst (λ (d : Claimed). IsClaimed id d f) (same_Some _ c is) record {
            below = below;
            known = known;
            run = ap (λ (l : Queue). slice_get l.history (length q.history)) here ∙ last_at q.history run;
            low = ap (λ (l : Queue). l.raised (length q.history) 0) here ∙ false_from_ne_true (q.raised (length q.history) 0) (λ up. let within = raised_known q (length q.history) lawful up in omega arith);
          });
      from = omega arith;
      to = omega arith;
      used = by_head ring below refl;
      capacity = shows.capacity;
      is_open = shows.is_open;
      single = one_more_single q.history run shows.single refl;
      bounded = omega arith;
      head = get_or-set_same words (head_word ring) value 0 (omega arith) ∙ omega arith;
      tail = get_or-set_other words (head_word ring) (tail_word ring) value 0 (λ same. omega arith) ∙ shows.tail;
      places = λ n from within. claim_places first id element q n _ lawful (let a = (within_room q 64 lawful shows.single shows.capacity).0 in omega arith) (subst (PlaceShows first q n) (sym (get_or-set_other words (head_word ring) (place_word ring (first + n)) value 0 (λ same. omega arith))) (shows.places n from within));
      owes = run_owes v (with_claim v e ring element) id element ring q idle refl;
      owes_else = λ l ne. queue_owes v (with_claim v e ring element) l (ring_at e l) (ring_at e l) idle refl refl;
    }

mark_is : (e : Elements) (wait ring : ℕ) → ring ≡ suc (suc wait) → mark_of e ring ≡ get_or e.notified wait 0
mark_is e wait ring same = ap (mark_of e) same

module _ (id : ℕ) (v : View) (free : v.own.claimed ≡ None) where
  -- an element that the hand holds gets the next place of a queue
  pub may_claim : (ring element old : ℕ) → ring < RINGS → element < ELEMENTS → has v element ≡ true → old % NOTIFY + 1 < 4294967296 → May id v (claim_event id ring element) (head_word ring) (λ x. x ≡ old) (λ x. old + 1)
  may_claim ring element old below known held fits = record {
    change = claim_element ring id (element ∷ []);
    is = λ t. at_ring (λ q. events.Claim id q (element ∷ [])) (λ r. claim_element r id (element ∷ [])) ring t refl refl (λ w. refl);
    plain = refl;
    inside = omega arith;
    goes = λ first same e words ready hit. let shown = ready.shows.rings ring below in let bounded = shown.bounded in let head : old ≡ head_shown first e ring = sym hit ∙ shown.head in
        subst (λ (r : ℕ). Effect id v (with_claim v e r element) first (claim_element ring id (element ∷ [])) e (set words (head_word ring) (old + 1))) (sym (ring_is ring))
        (becomes words _ (ap (λ (z : ℕ). z + 1) (sym head)) (effect_of id v first e words ring element (claim_element ring id (element ∷ [])) ready free below known held (omega arith)
        (λ rest at claims lets. claim_ok id element ring rest e (omega (arith, ready.shows.threads)) at claims lets)));
  }

  -- the same in a wait queue, while its number of notifies is the ticket
  pub may_wait : (wait element ticket old : ℕ) → wait < WAITS → element < ELEMENTS → has v element ≡ true → old % NOTIFY + 1 < 4294967296 → old / NOTIFY ≡ ticket
      → May id v (events.WaitAt id wait element ticket) (head_word (wait_ring wait)) (λ x. x ≡ old) (λ x. old + 1)
  may_wait wait element ticket old below known held fits is_ticket = record {
    change = wait_at id wait element ticket;
    is = λ t. refl;
    plain = refl;
    inside = omega arith;
    goes = λ first same e words ready hit. let shown = ready.shows.rings (wait_ring wait) (omega arith) in let bounded = shown.bounded in let head : old ≡ head_shown first e (wait_ring wait) = sym hit ∙ shown.head in
        let mark : mark_of e (wait_ring wait) ≡ ticket = omega arith in
        becomes words _ (ap (λ (z : ℕ). z + 1) (sym head)) (effect_of id v first e words (wait_ring wait) element (wait_at id wait element ticket) ready free (omega arith) known held (omega arith)
        (λ rest at claims lets. wait_ok id element wait ticket rest e (omega (arith, ready.shows.threads)) (omega (arith, ready.shows.waits)) (sym (mark_is e wait (wait_ring wait) (omega arith)) ∙ mark) at claims lets));
  }
