-- Why nothing is taken, by the tail and its mark.
use Rattle.batch_queue.proofs.Common.{IsStop, IsRest, ⊎_elim, ◌⊎◌, BatchState, Found, Lawful, List, Performed, SHUT, Step, View, WordsShow, [], ap, arith, dec_lt, dite, get_or, head_word, inl, inr, load, mark_word, phase_at, refl, subst, sym, tail_word, ℕ, ◌+◌, ◌/◌, ◌<◌, ◌∙◌, ◌∷◌, ◌≡◌, ◌≢◌, ◌≤◌}
use Rattle.std.proofs.Common.{◌*◌}
use Rattle.std.specs.Prelude.{min}
use Rattle.batch_queue.specs.Layout as layout
use Rattle.table_theory.proofs.Parting.{made_then}
use Rattle.batch_queue.specs.Client.{WhyNotTaken}
use Rattle.batch_queue.specs.Moments.{AtSomeMoment, claimed}
use Rattle.batch_queue.specs.Takings.{Glance, NoneBy, RefusedTake, LookedTwice, IsNone, IsShort}
use Rattle.batch_queue.specs.Walks.{LeadsOn}
use Rattle.batch_queue.specs.declared.refusals.TakeRefusal.{TakeRefusal}
use Rattle.batch_queue.specs.declared.refusals.TakeRefusal.TheVariants.{Empty, ShortBuffer, Lost, Closed}
use Rattle.batch_queue.proofs.Claims.{head_is, head_shut}
use Rattle.batch_queue.proofs.Growing.{claimed_at, freed_taken, taken_claimed}
use Rattle.batch_queue.proofs.Looking.{found_tail, seen_lawful}
use Rattle.batch_queue.proofs.Walking.{edge_within, found_real, mark_at, seen_room}
use Rattle.batch_queue.proofs.Whole.{batch_end, edge_batch}

-- what is published at the tail has its mark
marked : (o : BatchState) (words : List ℕ) (p mark : ℕ) → Lawful o → WordsShow o words → o.taken ≡ p → get_or words (mark_word o.room p) 0 ≡ mark → 1 ≤ phase_at o p → (e : ℕ) × IsStop o p × IsRest o.batches p e × (mark ≡ 2 * e)
marked o words p mark l h at is up = let stop : IsStop o p = subst (IsStop o) at l.stop in ⊎_elim
    (λ edge. (let t = edge_batch o.batches p edge (claimed_at o l p up) in (t.0, stop, record { start = p; batch = t.1; from = omega arith; some_item = t.2 }, sym is ∙ h.batch_mark p t.0 t.1 t.2 (omega arith) up)))
    (λ parted. (let t = h.rest_mark p parted (omega arith) in (t.0, stop, t.1, sym is ∙ t.2)))
    stop

-- nothing is published at a tail whose mark leads nowhere
mark_none : (o : BatchState) (words : List ℕ) (p mark : ℕ) → Lawful o → WordsShow o words → o.taken ≡ p → get_or words (mark_word o.room p) 0 ≡ mark → (LeadsOn 0 p mark → ⊥) → phase_at o p ≡ 0
mark_none o words p mark l h at is none = dite (dec_lt 0 (phase_at o p)) (λ up. (let m = marked o words p mark l h at is (omega arith) in let e = m.3 in let less = m.2.some_item in absurd (none (omega arith, omega arith)))) (λ low. omega arith)

-- a batch is published at a tail whose mark leads on, up to there
mark_batch : (o : BatchState) (words : List ℕ) (p mark : ℕ) → Lawful o → WordsShow o words → o.taken ≡ p → get_or words (mark_word o.room p) 0 ≡ mark → LeadsOn 0 p mark → IsStop o p × IsRest o.batches p (mark / 2) × (phase_at o p ≡ 1)
mark_batch o words p mark l h at is on = let a = freed_taken o l in let b = taken_claimed o l in let t = mark_at o words p mark l h (omega arith) (omega arith) is on.1 in let up = t.up on.0 p (omega arith) on.1 in let most = l.after p (omega arith) in
    let m = marked o words p mark l h at is up in let e = m.3 in let half : m.0 ≡ mark / 2 = omega arith in (m.1, subst (IsRest o.batches p) half m.2, omega arith)

module _ (room most : ℕ) (v u b : View) (tail mark : ℕ) (x : Found v tail_word tail u) (y : Found u (mark_word room tail) mark b) (rooms : v.first.room ≡ room) where
  abbrev one : Step BatchState
  one = load tail_word tail u.seen

  abbrev two : Step BatchState
  two = load (mark_word room tail) mark b.seen

  abbrev glance : Glance
  glance = record { tail = tail; at_tail = u.seen; mark = mark; at_mark = b.seen }

  made : Performed v (one ∷ two ∷ []) v.own b
  made = made_then v u b (one ∷ []) (two ∷ []) v.own (λ d. d) x.made y.made

  tail_is : u.seen.object.taken ≡ tail
  tail_is = sym (found_tail v u tail x).0

  word_is : get_or (found_real u b (mark_word room tail) mark y).words (mark_word b.seen.object.room tail) 0 ≡ mark
  word_is = let same : b.seen.object.room ≡ room = seen_room b y.ruled ∙ (ap (λ (z : BatchState). z.room) made.adds.first ∙ rooms) in let r = found_real u b (mark_word room tail) mark y in ap (λ (z : ℕ). get_or r.words (mark_word z tail) 0) same ∙ sym r.is

  pub none_at : b.seen.object.taken ≡ tail → (LeadsOn 0 tail mark → ⊥) → phase_at b.seen.object tail ≡ 0
  none_at at none = let r = found_real u b (mark_word room tail) mark y in mark_none b.seen.object r.words tail mark r.lawful r.shows at word_is none

  pub batch_at : b.seen.object.taken ≡ tail → LeadsOn 0 tail mark → IsStop b.seen.object tail × IsRest b.seen.object.batches tail (mark / 2) × (phase_at b.seen.object tail ≡ 1)
  batch_at at on = let r = found_real u b (mark_word room tail) mark y in mark_batch b.seen.object r.words tail mark r.lawful r.shows at word_is on

  pub tail_seen : AtSomeMoment v b (λ o. o.taken ≡ tail)
  tail_seen = record { before = []; step = one; after = two ∷ []; adds = made.adds; holds = tail_is }

  -- nothing was published at the tail, or the tail had moved on
  pub none_seen : (LeadsOn 0 tail mark → ⊥) → AtSomeMoment v b (λ o. (tail < o.taken) ⊎ (phase_at o tail ≡ 0))
  none_seen none = record {
    before = one ∷ [];
    step = two;
    after = [];
    adds = made.adds;
    holds = dite (dec_lt tail b.seen.object.taken) (λ past. inl past) (λ here. inr (none_at (let g = y.grows.taken in let was = tail_is in omega arith) none));
  }

  -- a mark that leads past the places is that of a later lap
  pub far_seen : LeadsOn 0 tail mark → tail + room < mark / 2 → AtSomeMoment v b (λ o. (tail < o.taken) ⊎ (phase_at o tail ≡ 0))
  far_seen on far = record {
    before = one ∷ [];
    step = two;
    after = [];
    adds = made.adds;
    holds = inl (dite (dec_lt tail b.seen.object.taken) (λ past. past) (λ here. (let at : b.seen.object.taken ≡ tail = (let g = y.grows.taken in let was = tail_is in omega arith) in let is = (batch_at at on).1 in
        let l = seen_lawful b y.ruled in let within = edge_within b.seen.object.batches (mark / 2) (batch_end b.seen.object.batches _ _ is.batch) in let w = l.within in let a = freed_taken b.seen.object l in
        let same : b.seen.object.room ≡ room = seen_room b y.ruled ∙ (ap (λ (z : BatchState). z.room) made.adds.first ∙ rooms) in absurd (omega arith))));
  }

  module _ (none : LeadsOn 0 tail mark → ⊥) where
    -- the head and the tail were loaded
    looked : (head now : ℕ) (z : View) (t : LookedTwice head now b z) → Performed v (one ∷ two ∷ load head_word head t.between.seen ∷ load tail_word now z.seen ∷ []) v.own z
    looked head now z t = made_then v b z (one ∷ two ∷ []) (load head_word head t.between.seen ∷ load tail_word now z.seen ∷ []) v.own (λ d. d) made
        (made_then b t.between z (load head_word head t.between.seen ∷ []) (load tail_word now z.seen ∷ []) b.own (λ d. d) t.head_is.made t.tail_is.made)

    none_empty : (z : View) (head : ℕ) → head ≢ SHUT + tail → LookedTwice head tail b z → WhyNotTaken v most (Empty tail) z
    none_empty z head going t = let w = t.between in let now = (found_tail w z tail t.tail_is).0 in let g = y.grows.taken in let g1 = t.head_is.grows.taken in let g2 = t.tail_is.grows.taken in let was = tail_is in
        let at : b.seen.object.taken ≡ tail = omega arith in let at' : w.seen.object.taken ≡ tail = omega arith in (
          record { before = one ∷ []; step = two; after = load head_word head w.seen ∷ load tail_word tail z.seen ∷ []; adds = (looked head tail z t).adds; holds = (at, none_at at none) },
          record {
            before = one ∷ two ∷ [];
            step = load head_word head w.seen;
            after = load tail_word tail z.seen ∷ [];
            adds = (looked head tail z t).adds;
            holds = λ shut. (let h = (head_is b w head t.head_is).0 in let m : layout.mark w.seen.object.shut ≡ SHUT = ap layout.mark shut in let c = taken_claimed w.seen.object (seen_lawful w t.head_is.ruled) in
                let ne : claimed w.seen.object ≢ tail = (λ e. going (let k : head ≡ SHUT + tail = omega arith in k)) in omega arith);
          },
        )

    none_lost : (z : View) (head now : ℕ) → now ≢ tail → LookedTwice head now b z → (tail < now) × WhyNotTaken v most (Lost now) z
    none_lost z head now ne t = let w = t.between in let is = (found_tail w z now t.tail_is).0 in let g = y.grows.taken in let g1 = t.head_is.grows.taken in let g2 = t.tail_is.grows.taken in let was = tail_is in
        (omega arith, record { before = []; first = one; between = two ∷ load head_word head w.seen ∷ []; second = load tail_word now z.seen; after = []; adds = (looked head now z t).adds; holds = (omega arith, sym is) })

    done : (z : View) → Found b head_word (SHUT + tail) z → Performed v (one ∷ two ∷ load head_word (SHUT + tail) z.seen ∷ []) v.own z
    done z f = made_then v b z (one ∷ two ∷ []) (load head_word (SHUT + tail) z.seen ∷ []) v.own (λ d. d) made f.made

    none_closed : (z : View) → Found b head_word (SHUT + tail) z → WhyNotTaken v most Closed z
    none_closed z f = let shut = head_shut b z (SHUT + tail) f (omega arith) in let h = (head_is b z (SHUT + tail) f).0 in let m : layout.mark z.seen.object.shut ≡ SHUT = ap layout.mark shut in let c = taken_claimed z.seen.object (seen_lawful z f.ruled) in let g = y.grows.taken in let g1 = f.grows.taken in let was = tail_is in
        record { before = one ∷ two ∷ []; step = load head_word (SHUT + tail) z.seen; after = []; adds = (done z f).adds; holds = (shut, omega arith) }

    pub none_error : (r : TakeRefusal) (z : View) → IsNone tail b r z → WhyNotTaken v most r z
    none_error (Empty at) z (is, head, going, t) = subst (λ (k : ℕ). WhyNotTaken v most (Empty k) z) (sym is) (none_empty z head going t)
    none_error (ShortBuffer at count) z h = absurd h
    none_error (Lost now) z (ne, head, going, t) = (none_lost z head now ne t).1
    none_error Closed z f = none_closed z f

    pub none_by : (Added : List (Step BatchState) → Type 0) (r : TakeRefusal) (z : View) → ((entries : List (Step BatchState)) → Performed v entries v.own z → Added entries) → IsNone tail b r z → NoneBy Added room r
    none_by Added (Empty at) z f (is, head, going, t) = subst (λ (k : ℕ). NoneBy Added room (Empty k)) (sym is)
        record { glance = glance; none = none; is = refl; head = head; at_head = t.between.seen; going = going; again = z.seen; added = f _ (looked head tail z t) }
    none_by Added (ShortBuffer at count) z f h = absurd h
    none_by Added (Lost now) z f (ne, head, going, t) = record { glance = glance; none = none; head = head; at_head = t.between.seen; going = going; past = (none_lost z head now ne t).0; again = z.seen; added = f _ (looked head now z t) }
    none_by Added Closed z f h = record { glance = glance; none = none; at_head = z.seen; added = f _ (done z h) }

    pub none_refused : (r : TakeRefusal) (z : View) → IsNone tail b r z → RefusedTake room v most r z
    none_refused (Empty at) z (is, head, going, t) = subst (λ (k : ℕ). RefusedTake room v most (Empty k) z) (sym is)
        record { glance = glance; none = none; is = refl; head = head; at_head = t.between.seen; going = going; again = z.seen; added = looked head tail z t }
    none_refused (ShortBuffer at count) z h = absurd h
    none_refused (Lost now) z (ne, head, going, t) = inl record { glance = glance; none = none; head = head; at_head = t.between.seen; going = going; past = (none_lost z head now ne t).0; again = z.seen; added = looked head now z t }
    none_refused Closed z f = record { glance = glance; none = none; at_head = z.seen; added = done z f }

  module _ (on : LeadsOn 0 tail mark) (count : ℕ) (up : tail + count ≡ mark / 2) (long : min most room < count) where
    again : (now : ℕ) (z : View) → Found b tail_word now z → Performed v (one ∷ two ∷ load tail_word now z.seen ∷ []) v.own z
    again now z t = made_then v b z (one ∷ two ∷ []) (load tail_word now z.seen ∷ []) v.own (λ d. d) made t.made

    -- the batch fits the queue, so it does not fit the buffer
    short_at : (z : View) → Found b tail_word tail z → (most < count) × AtSomeMoment v z (λ o. (o.taken ≡ tail) × IsStop o tail × IsRest o.batches tail (tail + count) × (phase_at o tail ≡ 1))
    short_at z t = let now = (found_tail b z tail t).0 in let g = y.grows.taken in let g1 = t.grows.taken in let was = tail_is in let at : b.seen.object.taken ≡ tail = omega arith in
        let h = batch_at at on in let is : IsRest b.seen.object.batches tail (tail + count) = subst (IsRest b.seen.object.batches tail) (sym up) h.1 in
        let l = seen_lawful b y.ruled in let within = edge_within b.seen.object.batches (tail + count) (batch_end b.seen.object.batches _ _ is.batch) in let w = l.within in let a = freed_taken b.seen.object l in
        let same : b.seen.object.room ≡ room = seen_room b y.ruled ∙ (ap (λ (z : BatchState). z.room) made.adds.first ∙ rooms) in
        (omega arith, record { before = one ∷ []; step = two; after = load tail_word tail z.seen ∷ []; adds = (again tail z t).adds; holds = (at, h.0, is, h.2) })

    short_lost : (now : ℕ) (z : View) → now ≢ tail → Found b tail_word now z → (tail < now) × WhyNotTaken v most (Lost now) z
    short_lost now z ne t = let is = (found_tail b z now t).0 in let g = y.grows.taken in let g1 = t.grows.taken in let was = tail_is in
        (omega arith, record { before = []; first = one; between = two ∷ []; second = load tail_word now z.seen; after = []; adds = (again now z t).adds; holds = (omega arith, sym is) })

    pub short_error : (r : TakeRefusal) (z : View) → IsShort tail count b r z → WhyNotTaken v most r z
    short_error (Empty at) z h = absurd h
    short_error (ShortBuffer at n) z (is, many, t) = subst (λ (k : ℕ). WhyNotTaken v most (ShortBuffer k n) z) (sym is) (subst (λ (k : ℕ). WhyNotTaken v most (ShortBuffer tail k) z) (sym many) (short_at z t))
    short_error (Lost now) z (ne, t) = (short_lost now z ne t).1
    short_error Closed z h = absurd h

    pub short_refused : (r : TakeRefusal) (z : View) → IsShort tail count b r z → RefusedTake room v most r z
    short_refused (Empty at) z h = absurd h
    short_refused (ShortBuffer at n) z (is, many, t) = subst (λ (k : ℕ). RefusedTake room v most (ShortBuffer k n) z) (sym is) (subst (λ (k : ℕ). RefusedTake room v most (ShortBuffer tail k) z) (sym many)
        ((short_at z t).0, record { glance = glance; long = (on, up, long); is = refl; again = z.seen; added = again tail z t }))
    short_refused (Lost now) z (ne, t) = inr (inl record { glance = glance; count = count; long = (on, up, long); past = (short_lost now z ne t).0; again = z.seen; added = again now z t })
    short_refused Closed z h = absurd h
