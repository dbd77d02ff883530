-- A step's result, by the words that it found.
use Rattle.thread_table.proofs.Common.{true_from_ne_false, false_from_ne_true, ◌≡◌, ◌≢◌, ℕ, ◌+◌, ◌/◌, ◌%◌, ◌<◌, ◌≤◌, true, false, get_or, sym, ◌∙◌, subst, arith, slice_get-get_or, dite, dec_lt, List, Elements, IsLawfulQueue, IsLawfulElements, Queue, empty_queue, Event, every_at, View, Grows, ring_at, element_at, thread_at, ELEMENTS, RINGS, PLACES, head_word, tail_word, place_word, state_word, WordsShow, RingShows, PlaceShows, StateShows, head_shown, tail_shown, Sees, Found, HandDid, Peeked}
use Rattle.thread_table.specs.Schedules.{elements_after}
use Rattle.thread_table.proofs.Events.SingleRuns.{within_room, taken_raised, first_of_left}
use Rattle.thread_table.proofs.Events.Takes.{first_known}

-- a step's result, by another name of its word
pub found_at : {v w : View} {i place found : ℕ} → i ≡ place → Found v i found w → Found v place found w
found_at {v} {w} {i} {place} {found} here f = subst (λ (z : ℕ). Found v z found w) here f

pub did_at : {call : ℕ} {v w : View} {i place found : ℕ} {event : Event} → i ≡ place → HandDid call v i found event w → HandDid call v place found event w
did_at {call} {v} {w} {i} {place} {found} {event} here d = subst (λ (z : ℕ). HandDid call v z found event w) here d

ring_of : (v w : View) (ring : ℕ) (sees : Sees v w.seen.object) → ring < RINGS → RingShows v.own.first (elements_after w.seen.object) ring sees.words
ring_of v w ring sees below = let shows = sees.shows in shows.rings ring below

lawful_ring : (v w : View) (ring : ℕ) → Sees v w.seen.object → ring < RINGS → IsLawfulQueue (ring_at (elements_after w.seen.object) ring)
lawful_ring v w ring sees below = let e : Elements = elements_after w.seen.object in let shows = sees.shows in let many = shows.queues in let lawful = sees.lawful in
    every_at IsLawfulQueue e.rings ring (ring_at e ring) (slice_get-get_or e.rings ring (empty_queue PLACES) (omega arith)) lawful.rings

pub found_head : (v w : View) (found ring : ℕ) → ring < RINGS → Found v (head_word ring) found w → found ≡ head_shown v.own.first (elements_after w.seen.object) ring
found_head v w found ring below f = let l = ring_of v w ring f.sees below in f.is ∙ l.head

pub found_tail : (v w : View) (found ring : ℕ) → ring < RINGS → Found v (tail_word ring) found w → found ≡ tail_shown v.own.first (elements_after w.seen.object) ring
found_tail v w found ring below f = let l = ring_of v w ring f.sees below in f.is ∙ l.tail

-- a tail is a position
pub small_tail : (v w : View) (ring : ℕ) → ring < RINGS → Sees v w.seen.object → tail_shown v.own.first (elements_after w.seen.object) ring < 4294967296
small_tail v w ring below seen = let l = ring_of v w ring seen below in let bounded = l.bounded in
    let room = within_room (ring_at (elements_after w.seen.object) ring) 64 (lawful_ring v w ring seen below) l.single l.capacity in let following = room.0 in omega arith

-- what the place says that was the tail's at the elements d, and was found at the elements e
pub place_says : (first found ring : ℕ) (d e : Elements) (words : List ℕ) → ring < RINGS → WordsShow first e words → IsLawfulElements e → Grows d e → found ≡ get_or words (place_word ring (first + (ring_at d ring).taken)) 0
    → ((found / 256 ≡ first + (ring_at d ring).taken + 1) → (ring_at e ring).raised (ring_at d ring).taken 0 ≡ true)
    × ((found / 256 ≡ first + (ring_at d ring).taken + 1) → (ring_at e ring).taken ≤ (ring_at d ring).taken → found % 256 ≡ element_at (ring_at e ring) (ring_at d ring).taken)
    × ((found / 256 ≢ first + (ring_at d ring).taken + 1) → (ring_at e ring).taken ≤ (ring_at d ring).taken → (ring_at e ring).raised (ring_at d ring).taken 0 ≡ false)
place_says first found ring d e words below shows lawful_all grows saw =
    let q : Queue = ring_at e ring in let t : ℕ = (ring_at d ring).taken in
    let many = shows.queues in let threads = shows.threads in let l = shows.rings ring below in
    let lawful : IsLawfulQueue q = every_at IsLawfulQueue e.rings ring q (slice_get-get_or e.rings ring (empty_queue PLACES) (omega arith)) lawful_all.rings in
    let grown = grows ring in let further = grown.further in
    let now : q.taken ≤ t → PlaceShows first q t found = λ old. subst (PlaceShows first q t) (sym saw) (l.places t old (omega arith)) in
    let known : q.taken ≤ t → q.raised t 0 ≡ true → element_at q t < 64 = λ old up. let same : t ≡ q.taken = omega arith in
    let x = first_known e ring (element_at q q.taken) lawful_all (omega arith) (first_of_left q lawful l.single (subst (λ (z : ℕ). q.raised z 0 ≡ true) same up)) in
    subst (λ (z : ℕ). element_at q z < 64) (sym same) (omega arith) in
    let raised : found / 256 ≡ first + t + 1 → q.raised t 0 ≡ true = λ is. dite (dec_lt t q.taken) (taken_raised q t lawful l.single)
    (λ no. true_from_ne_false (q.raised t 0) (λ low. let n = now (omega arith) in let less = n.low low in omega arith)) in (
      raised,
      λ is old. (let n = now old in let word = n.up (raised is) in omega arith),
      λ differs old. false_from_ne_true (q.raised t 0) (λ up. let n = now old in let word = n.up up in let bounded = known old up in differs (omega arith)),
    )

-- the place at the tail
pub found_place : (v w : View) (found ring : ℕ) → ring < RINGS → Found v (place_word ring (v.own.first + (ring_at (elements_after v.seen.object) ring).taken)) found w → Peeked v ring found w
found_place v w found ring below saw = let p = place_says v.own.first found ring (elements_after v.seen.object) (elements_after w.seen.object) saw.sees.words below saw.sees.shows saw.sees.lawful saw.sees.seen.grows saw.is in
    record { up = p.0; item = p.1; low = p.2 }

-- a state word that was found shows the element as it was then
pub state_found : (element found : ℕ) (v w : View) → element < ELEMENTS → Found v (state_word element) found w → StateShows (thread_at (elements_after w.seen.object) element) found
state_found element found v w known f = subst (StateShows (thread_at (elements_after w.seen.object) element)) (sym f.is) (f.sees.shows.states element known)
