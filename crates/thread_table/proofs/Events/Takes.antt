-- What a taking of one element does.
use Rattle.thread_table.proofs.Common.{◌*◌, ◌-◌, by_tail, RINGS, View, None, ◌≡◌, ℕ, ◌+◌, ◌%◌, ◌<◌, ◌≤◌, true, eq-eqb, List, [], ◌∷◌, ◌++◌, length, map, take, drop, set, get_or, Ok, refl, sym, ap, subst, ◌∙◌, arith, get_or-set_same, get_or-set_other, length-set, slice_get-get_or, add-mod_right, dite, dec_lt, Elements, hold, take_element, Queue, left, empty_queue, take_first, ◌>>=◌, at, IsLawfulQueue, IsLawfulElements, in_list, UnknownName, every_at, one, ring_at, element_at, ELEMENTS, PLACES, head_word, tail_word, place_word, PlaceShows, tail_shown, take_event, inl, inr, with_held, places_word}
use Rattle.std.proofs.Common.{ok_or}
use Rattle.std.proofs.lemmas.List.{take-append-drop}
use Rattle.event_theory.specs.Queues.{after_take}
use Rattle.event_theory.proofs.Keeping.Places.{sum_changed, in_joined}
use Rattle.table_theory.proofs.QueueEvents.{take_goes}
use Rattle.thread_table.proofs.Events.Changes.{ringed, hand_holds, ring_effect}
use Rattle.thread_table.proofs.Events.Effects.{Effect, May, becomes, ring_is, at_ring}
use Rattle.event_theory.specs.declared.event.Event.TheVariants as events
use Rattle.thread_table.specs.Schedules.{elements_after}
use Rattle.thread_table.proofs.Hands.HeldLists.{held_set}
use Rattle.thread_table.proofs.Hands.Releases.{handed, handed_else}
use Rattle.thread_table.proofs.Shown.QueueWords.{none_some}
use Rattle.thread_table.proofs.Events.Owing.{queue_owes}
use Rattle.thread_table.proofs.Events.SingleRuns.{Singles, within_room, raised_known, first_is_raised, first_of_left}

goes : (id : ℕ) (e : Elements) (ring x : ℕ) → ring < length e.rings → IsLawfulQueue (ring_at e ring) → Singles (ring_at e ring).history
    → (ring_at e ring).raised (ring_at e ring).taken 0 ≡ true → element_at (ring_at e ring) (ring_at e ring).taken ≡ x → take_element ring id 1 e ≡ Ok (ringed e ring (after_take 1 (ring_at e ring)) (e.held ++ hold id x ∷ []))
goes id e ring x below lawful single up is =
    let q : Queue = ring_at e ring in
    let found : at ring e.rings ≡ Ok q = ap (λ o. ok_or o UnknownName) (slice_get-get_or e.rings ring (empty_queue PLACES) below) in
    let took : take_first 1 1 q ≡ Ok (after_take 1 q) = take_goes 1 1 q (omega arith) (omega arith) (first_is_raised q lawful single up) in
    ap (λ said. said >>= λ old. take_first 1 1 old >>= λ new. Ok (record e { rings = set e.rings ring new; held = e.held ++ map (hold id) (take 1 (left old)) })) found
    ∙ (ap (λ said. said >>= λ new. Ok (record e { rings = set e.rings ring new; held = e.held ++ map (hold id) (take 1 (left q)) })) took
    ∙ ap (λ items. Ok (record e { rings = set e.rings ring (after_take 1 q); held = e.held ++ map (hold id) items })) (first_of_left q lawful single up ∙ ap (λ n. n ∷ []) is))

-- the element that is first in a queue is one of the elements
pub first_known : (e : Elements) (ring x : ℕ) → IsLawfulElements e → ring < length e.rings → take 1 (left (ring_at e ring)) ≡ x ∷ [] → x < length e.threads
first_known e ring x lawful below first =
    let q : Queue = ring_at e ring in
    let there : left q ≡ (x ∷ []) ++ drop 1 (left q) = sym (take-append-drop 1 (left q)) ∙ ap (λ items. items ++ drop 1 (left q)) first in
    let some : in_list x (left q) ≡ in_list x (x ∷ []) + in_list x (drop 1 (left q)) = ap (in_list x) there ∙ in_joined x (x ∷ []) (drop 1 (left q)) in
    let itself : one x x ≡ 1 = rw (eq-eqb x x refl) refl in
    let sum = sum_changed (λ (r : Queue). in_list x (left r)) e.rings ring q (empty_queue PLACES) (slice_get-get_or e.rings ring (empty_queue PLACES) below) in
    dite (dec_lt x (length e.threads)) (λ y. y) (λ no. absurd (omega (arith, lawful.known x (omega arith), some, itself, sum)))

-- the place of the run that was taken is that of the run 64 later, which nobody claimed
place_after : (first : ℕ) (q : Queue) (ring : ℕ) (words : List ℕ) → IsLawfulQueue q → length q.history ≤ q.taken + 64 → q.raised q.taken 0 ≡ true → element_at q q.taken < 64
    → ((r : ℕ) → q.taken ≤ r → r < q.taken + 64 → PlaceShows first q r (get_or words (place_word ring (first + r)) 0))
    → (r : ℕ) → q.taken + 1 ≤ r → r < q.taken + 1 + 64 → PlaceShows first (after_take 1 q) r (get_or words (place_word ring (first + r)) 0)
place_after first q ring words lawful room up known s r a b = dite (dec_lt r (q.taken + 64))
    (λ y. let p = s r (omega arith) y in record { up = p.up; low = p.low; early = p.early; late = p.late })
    (λ no. let last : r ≡ q.taken + 64 = omega arith in
    let p = s q.taken (omega arith) (omega arith) in
    let was = p.up up in
    let turn : first + r ≡ first + q.taken + 64 = omega arith in
    let round : (first + r) % 64 ≡ (first + q.taken) % 64 = ap (λ n. n % 64) turn ∙ add-mod_right (first + q.taken) 64 in
    let same : get_or words (place_word ring (first + r)) 0 ≡ get_or words (place_word ring (first + q.taken)) 0 = ap (λ n. get_or words (places_word ring + n) 0) round in
    record {
      up = λ h. let n = raised_known q r lawful h in absurd (omega arith);
      low = λ h. omega (arith, was, same, known);
      early = λ h few. absurd (omega arith);
      late = λ h many. let e : q.taken ≡ r - 64 = omega arith in same ∙ (was ∙ ap (λ (n : ℕ). element_at q n + 256 * (first + n + 1)) e);
    })

module _ (id : ℕ) (v : View) (free : v.own.claimed ≡ None) where
  -- the oldest element of a queue is taken, where its place was raised when the hand last looked
  pub may_take : (ring old run : ℕ) → ring < RINGS → old ≡ v.own.first + run → (ring_at (elements_after v.seen.object) ring).raised run 0 ≡ true → May id v (take_event id ring) (tail_word ring) (λ x. x ≡ old) (λ x. old + 1)
  may_take ring old run below start up = record {
    change = take_element ring id 1;
    is = λ t. at_ring (λ q. events.Take id q 1) (λ r. take_element r id 1) ring t refl refl (λ w. refl);
    plain = refl;
    inside = omega arith;
    goes = λ first same e words ready hit. let shown = ready.shows.rings ring below in let grown = ready.grown ring in
        let tail : old ≡ tail_shown first e ring = sym hit ∙ shown.tail in let here : run ≡ (ring_at e ring).taken = omega arith in
        let still : (ring_at e ring).raised (ring_at e ring).taken 0 ≡ true = subst (λ (z : ℕ). (ring_at e ring).raised z 0 ≡ true) here (grown.raised run up) in
        let q : Queue = ring_at e ring in let new : Queue = after_take 1 q in let x : ℕ = element_at q q.taken in let f : Elements = ringed e ring new (e.held ++ hold id x ∷ []) in
        let mine = ready.shows.rings ring below in let wide = ready.shows.wide in let value : ℕ = tail_shown first e ring + 1 in
        let inside : ring < length e.rings = omega (arith, ready.shows.queues) in
        let lawful : IsLawfulQueue q = every_at IsLawfulQueue e.rings ring q (slice_get-get_or e.rings ring (empty_queue PLACES) inside) ready.lawful.rings in
        let is_known : x < length e.threads = first_known e ring x ready.lawful inside (first_of_left q lawful mine.single still) in
        let bounded : x < ELEMENTS = omega (arith, ready.shows.threads) in
        subst (λ (r : ℕ). Effect id v (with_held v (element_at (ring_at e r) (ring_at e r).taken) true) first (take_element ring id 1) e (set words (tail_word ring) (old + 1))) (sym (ring_is ring))
        (becomes words _ (ap (λ (z : ℕ). z + 1) (sym tail)) (ring_effect id v (with_held v x true) first (take_element ring id 1) e words ring new (e.held ++ hold id x ∷ []) (tail_word ring) value below ready (goes id e ring x inside lawful mine.single still refl) record {
          grows = record { longer = omega arith; further = omega arith; items = λ r low. refl; raised = λ r was. was };
          others = λ call y other. handed_else id x call y e.held (inl other);
          runs = λ call c other is. (refl, refl);
          hand = λ here. hand_holds id v e f (set v.own.held x true) v.own.claimed ready.hand refl (length-set v.own.held x true)
              (held_set id v e f x true ready.hand bounded (handed id x e.held) (λ y apart. handed_else id x id y e.held (inr apart))) (λ c at. none_some c v.own.claimed free at);
          from = omega arith;
          to = omega arith;
          used = by_tail ring below refl;
          capacity = mine.capacity;
          is_open = mine.is_open;
          single = mine.single;
          bounded = mine.bounded;
          head = get_or-set_other words (tail_word ring) (head_word ring) value 0 (λ is. omega arith) ∙ mine.head;
          tail = get_or-set_same words (tail_word ring) value 0 (omega arith) ∙ omega arith;
          places = λ r a b. subst (PlaceShows first new r) (sym (get_or-set_other words (tail_word ring) (place_word ring (first + r)) value 0 (λ is. omega arith)))
              (place_after first q ring words lawful (within_room q 64 lawful mine.single mine.capacity).1 still bounded mine.places r a b);
          owes = queue_owes v (with_held v x true) ring q new free refl refl;
          owes_else = λ l ne. queue_owes v (with_held v x true) l (ring_at e l) (ring_at e l) free refl refl;
        }));
  }
