-- What the steps of a taking or of a move say together.
use Rattle.thread_table.proofs.Common.{or-true, or-false, inl, inr, Ok, Err, ◌++◌, ◌≡◌, ◌≢◌, ℕ, ◌+◌, ◌-◌, ◌*◌, ◌/◌, ◌%◌, ◌<◌, ◌≤◌, Bool, true, false, ◌||◌, cond, eqb, eq-eqb, ne_eqb, List, [], ◌∷◌, length, get_or, set, take, Some, refl, sym, ap, subst, ◌∙◌, arith, get_or-set_same, get_or-set_other, slice_get-get_or, append_assoc, made_in, has, dite, ℕ_discrete, Elements, Queue, left, empty_queue, IsLawfulQueue, Event, every_at, View, ring_at, ring_name, element_at, ELEMENTS, RINGS, PLACES, NOTIFY, head_word, tail_word, place_word, wait_ring, tail_shown, mark_of, claim_of, quiet, with_held, left_by_event, HasClaimed, MadeEvent, Sees, Found, HandDid, Peeked, TakeAnswer, WaitAnswer, MovedBy, Overtaken, IsTicket, raise_event, head_in, mark_in, load, Step, PerformsEvents, change, seen_as, with_event, take_event, claim_event}
use mathlib.Core.Path.{transport}
use Rattle.thread_table.proofs.Events.Firsts.{first_unheld}
use Rattle.event_theory.specs.declared.event.Event.TheVariants as events
use Rattle.thread_table.specs.Schedules.{elements_after, state_after}
use Rattle.thread_table.specs.Layout.{last_head}
use Rattle.thread_table.proofs.Events.Effects.{with_claim, with_raise, ring_is}
use Rattle.thread_table.specs.Answers.{WasSpent, HasMoved, with_move}
use Rattle.thread_table.specs.declared.takings.NextRefusal.TheVariants as nexts
use Rattle.thread_table.specs.declared.moves.MoveRefusal.TheVariants as moves
use Rattle.thread_table.proofs.Schedule.Acting.{steps_same, acts_on, acts_two, then_found, then_acts, may_as}
use Rattle.thread_table.proofs.Events.SingleRuns.{raised_known, first_of_left}
use Rattle.thread_table.proofs.Events.Takes.{first_known}

-- an element queue as the hand last saw it
abbrev seen_ring : View → ℕ → Queue
seen_ring v ring = ring_at (elements_after v.seen.object) ring

-- the number in a place word
pub place_mark : (place element mark tail : ℕ) → place ≡ element + 256 * mark → element < 256 → (mark ≢ tail + 1 → place / 256 ≢ tail + 1) × (mark ≡ tail + 1 → place / 256 ≡ tail + 1)
place_mark place element mark tail parts bounded = (λ low is. low (omega arith), λ up. omega arith)

-- the place at the tail was found not raised, and afterwards the tail is the same
pub not_raised : (call : ℕ) (u v f w : View) (ring tail place element mark now : ℕ) → Found u (tail_word ring) tail v → Found v (place_word ring tail) place f → Found f (tail_word ring) now w
    → place ≡ element + 256 * mark → element < 256 → mark ≢ tail + 1 → now ≡ tail → TakeAnswer call u ring (Err nexts.NoneReady) w
not_raised call u v f w ring tail place element mark now a b c parts bounded low same = (
  tail,
  place,
  v.seen,
  f.seen,
  w.seen,
  (place_mark place element mark tail parts bounded).0 low,
  then_found u f w (quiet u) (load (tail_word ring) tail v.seen ∷ load (place_word ring tail) place f.seen ∷ []) (tail_word ring) tail refl (acts_two u v f _ _ _ _ a b) (subst (λ n. Found f (tail_word ring) n w) same c),
)

-- The tail that was found last isn't the one found first: it is past that
pub passed_by : (call : ℕ) (u v f w : View) (ring tail place now : ℕ) → Found u (tail_word ring) tail v → Found v (place_word ring tail) place f → Found f (tail_word ring) now w → tail ≡ tail_shown u.own.first (elements_after v.seen.object) ring
    → now ≡ tail_shown f.own.first (elements_after w.seen.object) ring → now ≢ tail → TakeAnswer call u ring (Err (nexts.Lost now)) w
passed_by call u v f w ring tail place now a b c tail_is now_is ne = let looks = acts_two u v f _ _ _ _ a b in
    let first : f.own.first ≡ u.own.first = ap (λ (z : View). z.own.first) looks.has in let m1 = (b.sees.seen.grows ring).further in let m2 = (c.sees.seen.grows ring).further in
    let l : tail ≤ now = omega arith in
    (tail, place, v.seen, f.seen, w.seen, omega (arith, ne), then_found u f w (quiet u) (load (tail_word ring) tail v.seen ∷ load (place_word ring tail) place f.seen ∷ []) (tail_word ring) now refl looks c)

-- what is held after one more is
pub held_more : (held : List Bool) (x e : ℕ) → x < length held → get_or (set held x true) e false ≡ (get_or held e false || eqb e x)
held_more held x e below = dite (ℕ_discrete e x)
    (λ is. ap (λ n. get_or (set held x true) n false) is ∙ (get_or-set_same held x true false below ∙ (sym (or-true (get_or held e false)) ∙ ap (λ b. get_or held e false || b) (sym (eq-eqb e x is)))))
    (λ ne. get_or-set_other held x e true false ne ∙ (sym (or-false (get_or held e false)) ∙ ap (λ b. get_or held e false || b) (sym (ne_eqb e x ne))))

-- what is held after one less is
pub held_less : (held : List Bool) (x e : ℕ) → x < length held → get_or (set held x false) e false ≡ cond (eqb e x) false (get_or held e false)
held_less held x e below = dite (ℕ_discrete e x)
    (λ is. ap (λ n. get_or (set held x false) n false) is ∙ (get_or-set_same held x false false below ∙ ap (λ b. cond b false (get_or held e false)) (sym (eq-eqb e x is))))
    (λ ne. get_or-set_other held x e false false ne ∙ ap (λ b. cond b false (get_or held e false)) (sym (ne_eqb e x ne)))

-- the tail at the exchange is the one loaded, so the element in the place word is the oldest
took_oldest : (call : ℕ) (u v f w : View) (ring tail found element mark : ℕ) → ring < RINGS → Found u (tail_word ring) tail v → Found v (place_word ring tail) found f → tail ≡ tail_shown u.own.first (elements_after v.seen.object) ring
    → Peeked v ring found f → found ≡ element + 256 * mark → element < 256 → mark ≡ tail + 1 → (t : HandDid call f (tail_word ring) tail (take_event call ring) w)
    → (element_at (ring_at (elements_after t.before.object) ring) (ring_at (elements_after t.before.object) ring).taken ≡ element) × (take 1 (left (ring_at (elements_after t.before.object) ring)) ≡ element ∷ []) × (element < ELEMENTS)
took_oldest call u v f w ring tail found element mark below a b tail_is peek parts bounded up t =
    let s : Sees f t.before.object = t.step.sees in
    let q : Queue = ring_at (elements_after t.before.object) ring in
    let fv : v.own.first ≡ u.own.first = ap (λ (z : View). z.own.first) a.acts.has in
    let ff : f.own.first ≡ v.own.first = ap (λ (z : View). z.own.first) b.acts.has in
    let tail_now : tail ≡ f.own.first + q.taken = t.step.is ∙ (s.shows.rings ring below).tail in
    let m1 = (b.sees.seen.grows ring).further in
    let m2 = (s.seen.grows ring).further in
    let now : (seen_ring v ring).taken ≡ q.taken = omega arith in
    let marked : found / 256 ≡ v.own.first + (seen_ring v ring).taken + 1 = omega arith in
    let raised : (seen_ring f ring).raised (seen_ring v ring).taken 0 ≡ true = peek.up marked in
    let many : ring < length (elements_after f.seen.object).rings = subst (λ n. ring < n) (sym b.sees.shows.queues) below in
    let many' : ring < length (elements_after t.before.object).rings = subst (λ n. ring < n) (sym s.shows.queues) below in
    let lawful : IsLawfulQueue (seen_ring f ring) = every_at IsLawfulQueue (elements_after f.seen.object).rings ring (seen_ring f ring) (slice_get-get_or (elements_after f.seen.object).rings ring (empty_queue PLACES) many) b.sees.lawful.rings in
    let lawful' : IsLawfulQueue q = every_at IsLawfulQueue (elements_after t.before.object).rings ring q (slice_get-get_or (elements_after t.before.object).rings ring (empty_queue PLACES) many') s.lawful.rings in
    let inside : (seen_ring v ring).taken < length (seen_ring f ring).history = raised_known (seen_ring f ring) (seen_ring v ring).taken lawful raised in
    let item : found % 256 ≡ element_at (seen_ring f ring) (seen_ring v ring).taken = peek.item marked (omega arith) in
    let part : found % 256 ≡ element = omega arith in
    let is : element_at q q.taken ≡ element = ap (element_at q) (sym now) ∙ ((s.seen.grows ring).items (seen_ring v ring).taken inside ∙ (sym item ∙ part)) in
    let still : q.raised q.taken 0 ≡ true = subst (λ n. q.raised n 0 ≡ true) now ((s.seen.grows ring).raised (seen_ring v ring).taken raised) in
    let oldest : take 1 (left q) ≡ element ∷ [] = first_of_left q lawful' (s.shows.rings ring below).single still ∙ ap (λ n. n ∷ []) is in
    (is, oldest, subst (λ n. element < n) s.shows.threads (first_known (elements_after t.before.object) ring element s.lawful many' oldest))

-- after a taking: the element is one of the table's, and the entries are those of the answer
pub taken_first : (call : ℕ) (u v f w : View) (ring tail found element mark : ℕ) → ring < RINGS → Found u (tail_word ring) tail v → Found v (place_word ring tail) found f → tail ≡ tail_shown u.own.first (elements_after v.seen.object) ring
    → Peeked v ring found f → found ≡ element + 256 * mark → element < 256 → mark ≡ tail + 1 → HandDid call f (tail_word ring) tail (take_event call ring) w → (element < ELEMENTS) × TakeAnswer call u ring (Ok element) w
taken_first call u v f w ring tail found element mark below a b tail_is peek parts bounded up t =
    let o = took_oldest call u v f w ring tail found element mark below a b tail_is peek parts bounded up t in let looks = acts_two u v f _ _ _ _ a b in
    let ev : Event = take_event call ring in let e : Elements = elements_after t.before.object in
    let took : PerformsEvents f (change (tail_word ring) tail t.before ev ∷ []) (with_event (with_held f element true) ev) w =
    subst (λ (x : ℕ). PerformsEvents f (change (tail_word ring) tail t.before ev ∷ []) (with_event (with_held f x true) ev) w) (ap (λ (r : ℕ). element_at (ring_at e r) (ring_at e r).taken) (ring_is ring) ∙ o.0) t.step.acts in
    let acts = then_acts u f w (λ z. with_event (with_held z element true) ev) (load (tail_word ring) tail v.seen ∷ load (place_word ring tail) found f.seen ∷ []) (change (tail_word ring) tail t.before ev ∷ []) looks took refl in
    let long : length u.own.held ≡ 64 = ap (λ (z : View). length z.own.held) (sym looks.has) ∙ t.hand.held_long in
    let free : has u element ≡ false = ap (λ (z : View). has z element) (sym looks.has) ∙ (sym (t.hand.held element) ∙ first_unheld call element ring e t.step.sees.lawful o.1) in (
      o.2,
      (
        tail,
        found,
        v.seen,
        f.seen,
        t.before,
        (place_mark found element mark tail parts bounded).1 up,
        (let is : element ≡ found % 256 = omega arith in is),
        (free, λ e. ap (λ (z : View). has z e) acts.has ∙ held_more u.own.held element e (omega (arith, long, o.2))),
        acts,
      ),
    )

-- a head word by its parts
pub word_parts : (word head mark : ℕ) → word ≡ head + mark * NOTIFY → head < 4294967296 → (head_in word ≡ head) × (mark_in word ≡ mark)
word_parts word head mark parts bounded = (omega arith, omega arith)

head_left : (word head mark : ℕ) → word ≡ head + mark * NOTIFY → head < 4294967296 → head ≢ 4294967295 → head_in word < last_head
head_left word head mark parts bounded more = let p = (word_parts word head mark parts bounded).0 in omega (arith, more, p)

-- the same head word, by another name of its queue
pub found_in : {u v : View} {word ring other : ℕ} → ring ≡ other → Found u (head_word ring) word v → Found u (head_word other) word v
found_in {u} {v} {word} is f = subst (λ (l : ℕ). Found u (head_word l) word v) is f

-- the head is the last position
pub was_spent : (u v : View) (ring word head mark : ℕ) → Found u (head_word ring) word v → word ≡ head + mark * NOTIFY → head < 4294967296 → head ≡ 4294967295 → WasSpent u ring v
was_spent u v ring word head mark a parts bounded last = (word, v.seen, (word_parts word head mark parts bounded).0 ∙ last, a.acts)

-- the exchange found another head word
pub overtaken : (u v w : View) (ring word head mark found : ℕ) → Found u (head_word ring) word v → word ≡ head + mark * NOTIFY → head < 4294967296 → head ≢ 4294967295 → Found v (head_word ring) found w → found ≢ word → Overtaken u ring word found w
overtaken u v w ring word head mark found a parts bounded more b ne = (v.seen, w.seen, head_left word head mark parts bounded more, ne, acts_two u v w _ _ _ _ a b)

-- the number of notifies of a queue
pub is_ticket : (u v : View) (wait word head mark : ℕ) → Found u (head_word (wait_ring wait)) word v → word ≡ head + mark * NOTIFY → head < 4294967296 → IsTicket u wait mark v
is_ticket u v wait word head mark a parts bounded = (word, v.seen, sym (word_parts word head mark parts bounded).1, a.acts)

pub moved_before : (u v : View) (wait ticket word head mark : ℕ) → Found u (head_word (wait_ring wait)) word v → word ≡ head + mark * NOTIFY → head < 4294967296 → head ≢ 4294967295 → mark ≢ ticket → HasMoved u wait ticket mark v
moved_before u v wait ticket word head mark a parts bounded more ne = (word, v.seen, head_left word head mark parts bounded more, ne, inl (sym (word_parts word head mark parts bounded).1, a.acts))

pub moved_meanwhile : (u v w : View) (wait ticket word head mark seen later now : ℕ) → Found u (head_word (wait_ring wait)) word v → word ≡ head + mark * NOTIFY → head < 4294967296 → head ≢ 4294967295 → mark ≡ ticket
    → Found v (head_word (wait_ring wait)) seen w → seen ≡ later + now * NOTIFY → later < 4294967296 → now ≢ ticket → HasMoved u wait ticket now w
moved_meanwhile u v w wait ticket word head mark seen later now a parts bounded more was b parts' small' ne = (
  word,
  v.seen,
  head_left word head mark parts bounded more,
  ne,
  inr ((word_parts word head mark parts bounded).1 ∙ was, seen, w.seen, sym (word_parts seen later now parts' small').1, acts_two u v w _ _ _ _ a b),
)

pub overtaken_at : (call element : ℕ) (u v w : View) (wait ticket word head mark seen later now : ℕ) → Found u (head_word (wait_ring wait)) word v → word ≡ head + mark * NOTIFY → head < 4294967296 → head ≢ 4294967295 → mark ≡ ticket
    → Found v (head_word (wait_ring wait)) seen w → seen ≢ word → seen ≡ later + now * NOTIFY → later < 4294967296 → now ≡ ticket → WaitAnswer call u wait element ticket (Err (moves.Lost seen)) w
overtaken_at call element u v w wait ticket word head mark seen later now a parts bounded more was b ne parts' small' still = (
  word,
  (word_parts word head mark parts bounded).1 ∙ was,
  (word_parts seen later now parts' small').1 ∙ still,
  overtaken u v w (wait_ring wait) word head mark seen a parts bounded more b ne,
)

-- the event claims the next place of the queue for the element
abbrev pub Moves : Event → ℕ → ℕ → Type 0
Moves event ring element = (v : View) (e : Elements) → left_by_event event e v ≡ with_claim v e ring element

pub claim_moves : (call ring element : ℕ) → Moves (claim_event call ring element) ring element
claim_moves call ring element v e = ap (λ (r : ℕ). with_claim v e r element) (ring_is ring)

module _ (call ring element : ℕ) (event : Event) (word head mark : ℕ) (v m : View) (below : ring < RINGS) (moves : Moves event ring element) (c : HandDid call v (head_word ring) word event m) (parts : word ≡ head + mark * NOTIFY) (bounded : head < 4294967296) where
  -- the run that was claimed, of which the head word has the position
  run_claimed : head ≡ v.own.first + length (ring_at (elements_after c.before.object) ring).history
  run_claimed =
      let e : Elements = elements_after c.before.object in let shows = c.step.sees.shows.rings ring below in
      let is : word ≡ v.own.first + length (ring_at e ring).history + mark_of e ring * NOTIFY = c.step.is ∙ shows.head in
      let low : v.own.first + length (ring_at e ring).history < 4294967296 = shows.bounded in omega arith

  first_same : m.own.first ≡ v.own.first
  first_same = ap (λ (z : View). z.own.first) c.step.acts.has

  -- so the raise is of that run
  pub claim_known : HasClaimed m ring head element
  claim_known = let run = run_claimed in let first = first_same in let number : length (ring_at (elements_after c.before.object) ring).history ≡ head - m.own.first = omega arith in
      (ap (λ (z : View). z.own.claimed) c.step.acts.has ∙ (ap (λ (z : View). z.own.claimed) (moves v (elements_after c.before.object)) ∙ ap (λ n. Some (claim_of ring n element)) number), omega arith)

  -- after a move: the entries are those of the answer
  pub moved_to : (u w : View) (found : ℕ) → u.own.fresh ≡ true → has u element ≡ true → element < ELEMENTS → Found u (head_word ring) word v → head ≢ 4294967295
      → HandDid call m (place_word ring head) found (raise_event call m ring head) w → MovedBy call u ring element event word w
  moved_to u w found fresh mine known fa more r =
      let a = fa.acts in let e : Elements = elements_after c.before.object in let made : MadeEvent = made_in event (state_after c.before.object) in
      let claim : Step = change (head_word ring) word c.before event in
      let spot : head ≡ head_in word = sym (word_parts word head mark parts bounded).0 in
      let first : m.own.first ≡ u.own.first = first_same ∙ ap (λ (z : View). z.own.first) a.has in
      let raise : Event = raise_event call u ring (head_in word) in let store : Step = change (place_word ring (head_in word)) found r.before raise in
      let mid : View → View = λ z. record (with_claim z e ring element) { own = record (with_claim z e ring element).own { made = z.own.made ++ made ∷ [] } } in
      let claimed : PerformsEvents v (claim ∷ []) (mid v) m = subst (λ (z : View). PerformsEvents v (claim ∷ []) (record z { own = record z.own { made = v.own.made ++ made ∷ [] } }) m) (moves v e) c.step.acts in
      let raised : PerformsEvents m (store ∷ []) (with_event (with_raise m) raise) w =
      transport (λ i. PerformsEvents m (change (place_word ring (spot i)) found r.before (events.Raise call (ring_name ring) (spot i - first i) 0) ∷ []) (with_event (with_raise m) (events.Raise call (ring_name ring) (spot i - first i) 0)) w) r.step.acts in
      let ends : View → View = λ z. with_event (with_raise (mid z)) raise in
      let two : PerformsEvents v (claim ∷ store ∷ []) (ends v) w = acts_on v m w (mid v) (with_event (with_raise m) raise) (ends v) (claim ∷ []) (store ∷ []) (ap (λ (z : View). z.member.share) claimed.has) claimed raised
      (raised.has ∙ ap (λ (z : View). seen_as (with_event (with_raise z) raise) w) claimed.has)
      (λ x low before after. may_as w m (sym (ap (λ (z : View). z.own.held) raised.has)) (sym (ap (λ (z : View). z.own.serves) raised.has)) (sym (ap (λ (z : View). z.own.on) raised.has)) x after) in
      let lists : List MadeEvent → View = λ l. record (ends u) { own = record (ends u).own { made = l } } in
      let acts : PerformsEvents u (load (head_word ring) word v.seen ∷ claim ∷ store ∷ []) (with_move u element event c.before raise) w =
      subst (λ (l : List MadeEvent). PerformsEvents u (load (head_word ring) word v.seen ∷ claim ∷ store ∷ []) (lists l) w) (append_assoc u.own.made (made ∷ []) (record { event = raise; number = 0; signals = [] } ∷ []))
      (then_acts u v w ends (load (head_word ring) word v.seen ∷ []) (claim ∷ store ∷ []) a two refl) in
      let long : length u.own.held ≡ 64 = ap (λ (z : View). length z.own.held) (sym a.has) ∙ c.hand.held_long in (
        found,
        v.seen,
        c.before,
        r.before,
        head_left word head mark parts bounded more,
        steps_same v c.before.object c.step.sees element (ap (λ (z : View). z.own.fresh) a.has) known (inl (ap (λ (z : View). has z element) a.has ∙ mine)) ∙ steps_same u v.seen.object fa.sees element fresh known (inl mine),
        (λ e. ap (λ (z : View). has z e) acts.has ∙ held_less u.own.held element e (omega (arith, known, long))),
        acts,
      )
