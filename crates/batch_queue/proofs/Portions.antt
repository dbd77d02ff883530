-- The steps of a taking of some items, taken together.
use Rattle.batch_queue.proofs.Common.{BatchState, EndRecord, Found, Grows, IsStop, List, Performed, Me, Released, Step, Took, View, [], ap, append_assoc, ◌⊎◌, arith, cells, change, drop, inl, inr, items_of, length, length-drop, length-take-le, line_of, load, map, map-append, mark_word, no_slots, positions_of, refl, slots_of, subst, sym, tail_word, take, taking, with_no_slots, with_back, with_taken, with_taking, ℕ, ⊎_elim, ◌++◌, ◌+◌, ◌/◌, ◌-◌, ◌<◌, ◌∙◌, ◌∷◌, ◌≡◌, ◌≢◌, ◌≤◌}
use Rattle.std.specs.Prelude.{min}
use Rattle.std.proofs.Math.Seq.{take-append_seam}
use Rattle.table_theory.proofs.Parting.{made_on}
use Rattle.table_theory.specs.declared.views.Part.{Part}
use Rattle.batch_queue.specs.Lines.{SameLines}
use Rattle.batch_queue.specs.Parts.{AreSome, FilledSome, FoundStop, HasTakenSome, LostStop, MayPart, PartedBy, StoppedShort, RefusedSomeBy, SameSome, StopBy, TookSome, WhyNoStop, WhyNotTakenSome, all, already, meanwhile, no_more, one_more, parted, within, with_parts}
use Rattle.batch_queue.specs.Client.{PartsOnlyIfFull, TookAllPublished, TookThen, WereSome, WhyNotTaken}
use Rattle.batch_queue.specs.Takings.{IsNone, NoneBy, RefusedTake, TookBatches, with_line}
use Rattle.batch_queue.specs.declared.refusals.TakeRefusal.{TakeRefusal}
use Rattle.batch_queue.specs.declared.refusals.TakeRefusal.TheVariants.{Empty, ShortBuffer, Lost, Closed}
use Rattle.batch_queue.proofs.Filling.{items_of_cells, part_items}
use Rattle.batch_queue.proofs.Growing.{real_lawful, taken_claimed}
use Rattle.batch_queue.proofs.Looking.{found_tail}
use Rattle.batch_queue.proofs.Stepping.{step_real}
use Rattle.batch_queue.proofs.Dividing.{made_none_parted}
use Rattle.batch_queue.proofs.Quiet.{others_after}
use Rattle.batch_queue.proofs.Walking.{seen_room}
use Rattle.batch_queue.specs.Moments.{AtSomeMoment, MarkChanged}
use Rattle.table_theory.proofs.Moments.{moment_after, moment_map, moment_now, moment_then, two_after, two_by, two_map, two_of, two_then}
use Rattle.table_theory.specs.Ledgers.{ExtendsTrace}
use Rattle.batch_queue.specs.Object.{LacksUpTo}
use Rattle.std.specs.Prelude.{Result, Ok, Err, IfOk, MatchResult}

-- a batch is parted once, or none
parted_once : (room p end parts : ℕ) (es : List (Step BatchState)) → PartedBy room p end parts es → parts ≤ 1
parted_once room p end parts es (already mark m on none is) = omega arith
parted_once room p end parts es (parted mark m n low one is) = omega arith
parted_once room p end parts es (meanwhile mark found m n low ne on none is) = omega arith

pub once : (room tail most to parts : ℕ) (es : List (Step BatchState)) → StopBy room tail most to parts es → parts ≤ 1
once room tail most to parts es (all f is none) = omega arith
once room tail most to parts es (no_more mark r nothing none) = omega arith
once room tail most to parts es (one_more at mark more r on is fits none) = omega arith
once room tail most to parts es (within at mark before after again r on far is by are) = parted_once room to (mark / 2) parts after by

module _ (room most : ℕ) (v u b c : View) (tail first new : ℕ) (rooms : v.first.room ≡ room) (x : Found v tail_word tail u) (y : Found u (mark_word room tail) first b) (s : FoundStop room tail (min most room) first new b c) (less : tail < new) (far : new ≤ tail + min most room) (g : Grows b.seen.object c.seen.object) where
  abbrev looks : List (Step BatchState)
  looks = load (mark_word room tail) first b.seen ∷ s.loads

  abbrev one : List (Step BatchState)
  one = load tail_word tail u.seen ∷ []

  stops : StopBy room tail (min most room) new s.parts looks
  stops = s.by b.seen

  made : Performed v (one ++ looks) (with_parts v.own s.parts) c
  made = made_on v u c one looks v.own (with_parts v.own s.parts) x.made
      (made_on u b c (load (mark_word room tail) first b.seen ∷ []) s.loads u.own (with_parts v.own s.parts) y.made (subst (λ (z : EndRecord). Performed b s.loads (with_parts z s.parts) c) (y.made.did ∙ x.made.did) s.made))

  -- another tail was found
  lost : (now : ℕ) (w : View) → Found c tail_word now w → Performed v (one ++ (looks ++ load tail_word now w.seen ∷ [])) (with_parts v.own s.parts) w
  lost now w t = made_on v c w (one ++ looks) (load tail_word now w.seen ∷ []) (with_parts v.own s.parts) (with_parts v.own s.parts) made (subst (λ (z : EndRecord). Performed c (load tail_word now w.seen ∷ []) z w) made.did t.made)

  past : (now : ℕ) (w : View) → now ≢ tail → Found c tail_word now w → tail < now
  past now w ne t = let is = (found_tail v u tail x).0 in let is' = (found_tail c w now t).0 in let g0 = y.grows.taken in let g1 = g.taken in let g2 = t.grows.taken in omega arith

  pub passed_error : (now : ℕ) (w : View) → now ≢ tail → Found c tail_word now w → WhyNotTakenSome v most (Lost now) w
  passed_error now w ne t = let p = past now w ne t in let is = (found_tail v u tail x).0 in let is' = (found_tail c w now t).0 in inl record { before = []; first = load tail_word tail u.seen; between = looks; second = load tail_word now w.seen; after = []; adds = (lost now w t).adds; holds = (omega arith, sym is') }

  pub passed_refused : (now : ℕ) (w : View) → now ≢ tail → Found c tail_word now w → RefusedSomeBy (λ parts entries. Performed v entries (with_parts v.own parts) w) room most (Lost now)
  passed_refused now w ne t = inr (inl record { tail = tail; to = new; at_tail = u.seen; parts = s.parts; looks = looks; stops = stops; past = past now w ne t; at_exchange = w.seen; added = lost now w t })

  pub has_taken_some : (m : Me ℕ View) → Took c tail new m → (items : List ℕ) × (length items ≡ new - tail) × HasTakenSome room most v tail items m
  has_taken_some m t = let o : BatchState = t.at.object in let items : List ℕ = take (new - tail) (drop tail (items_of o)) in
      let e : Step BatchState = change tail_word tail t.at (with_taken o new) in let real = step_real c m.0 e (with_taking c.own o (new - tail)) t.step in let claimed : new ≤ length (items_of o) = taken_claimed (with_taken o new) (real_lawful e real) in
      let long : length items ≡ new - tail = (let d = length-drop tail (items_of o) in length-take-le (new - tail) (drop tail (items_of o)) (omega arith)) in let end : new ≡ tail + length items = omega arith in let tail_is = t.tail_is in
      let bounded = real.shows.bounded in let own = t.step.made.did in let own' : EndRecord = with_parts v.own s.parts in
      let all_made : Performed v (one ++ (looks ++ e ∷ [])) (with_taking own' o (new - tail)) m.0 = made_on v c m.0 (one ++ looks) (e ∷ []) own' (with_taking own' o (new - tail)) made (subst (λ (z : EndRecord). Performed c (e ∷ []) (with_taking z o (new - tail)) m.0) made.did t.step.made) in (
        items,
        long,
        record {
          taken = record {
            some_item = omega arith;
            within = omega arith;
            at_tail = u.seen;
            parts = s.parts;
            looks = looks;
            stops = subst (λ (z : ℕ). StopBy room tail (min most room) z s.parts looks) end stops;
            at_taking = t.at;
            first = record { items_are = (λ i. take (long i) (drop (tail_is i) (items_of o))); stop = subst (IsStop o) (let n : new ≡ o.taken + length items = omega arith in n) t.stop };
            added = subst (λ (z : ℕ). Performed v (one ++ (looks ++ change tail_word tail t.at (with_taken o z) ∷ [])) (with_taking own' o (length items)) m.0) end
                (subst (λ (z : ℕ). Performed v (one ++ (looks ++ e ∷ [])) (with_taking own' o z) m.0) (sym long) all_made);
          };
          start = tail_is;
          range = record { in_phase = ap (λ (z : EndRecord). z.held.phase) own; start_is = ap (λ (z : EndRecord). z.held.start) own ∙ tail_is; count_is = ap (λ (z : EndRecord). z.held.count) own ∙ sym long; some_slot = omega arith; bounded = omega arith };
          slots = t.slots ∙ ap (λ (z : ℕ). slots_of z tail items) (ap (λ (z : BatchState). z.room) made.adds.first ∙ rooms);
        },
      )

-- it was not found where the taking ends
module _ (room most : ℕ) (v u b w : View) (tail first now : ℕ) (x : Found v tail_word tail u) (y : Found u (mark_word room tail) first b) where
  abbrev before : List (Step BatchState)
  before = load tail_word tail u.seen ∷ load (mark_word room tail) first b.seen ∷ []

  made_before : Performed v before v.own b
  made_before = made_on v u b (load tail_word tail u.seen ∷ []) (load (mark_word room tail) first b.seen ∷ []) v.own v.own x.made (subst (λ (z : EndRecord). Performed u (load (mark_word room tail) first b.seen ∷ []) z b) x.made.did y.made)

  no_stop_lost : v.first.room ≡ room → WhyNoStop tail (tail + min most room) now b w → WhyNotTakenSome v most (Lost now) w
  no_stop_lost rooms h = let is = (found_tail v u tail x).0 in let same : u.seen.object.room ≡ room = seen_room u x.ruled ∙ (ap (λ (z : BatchState). z.room) x.made.adds.first ∙ rooms) in let share : b.member.share ≡ v.member.share = ap (λ (z : Part). z.share) made_before.member in ⊎_elim
      (λ s. inl (two_by v u w (load tail_word tail u.seen) v.own _ x.made (moment_map u w _ _ (λ o t. (let less = t.0 in omega arith, t.1)) (moment_after u b w (load (mark_word room tail) first b.seen ∷ []) _ (ap (λ (z : Part). z.share) y.made.member) y.made.adds s))))
      (λ t. inr (moment_after v b w before _ share made_before.adds t.0, tail + min most room, last_at same is t.1, others_after v b w before _ share made_before.adds t.1))
      h
    where
      last_at : u.seen.object.room ≡ room → tail ≡ u.seen.object.taken → MarkChanged b (tail + min most room) w → AtSomeMoment v w (λ o. tail + min most room ≡ o.taken + min most o.room)
      last_at same is c = moment_then v b w (c.moments.before ++ c.moments.first ∷ (c.moments.between ++ c.moments.second ∷ c.moments.after)) _ (ap (λ (z : Part). z.share) made_before.member)
          (record { before = []; step = load tail_word tail u.seen; after = load (mark_word room tail) first b.seen ∷ []; adds = made_before.adds; holds = λ i. is i + min most (sym same i) })
          c.moments.adds

  pub no_stop_error : (r : TakeRefusal) → v.first.room ≡ room → r ≡ Lost now → WhyNoStop tail (tail + min most room) now b w → WhyNotTakenSome v most r w
  no_stop_error r rooms is h = subst (λ (z : TakeRefusal). WhyNotTakenSome v most z w) (sym is) (no_stop_lost rooms h)

  no_stop_by : LostStop room tail (min most room) first now b w → RefusedSomeBy (λ parts entries. Performed v entries (with_parts v.own parts) w) room most (Lost now)
  no_stop_by l = inr (inr record {
    tail = tail;
    at_tail = u.seen;
    looks = load (mark_word room tail) first b.seen ∷ l.loads;
    lost = l.by b.seen;
    added = made_none_parted v w _ (made_on v b w before l.loads v.own v.own made_before (subst (λ (z : EndRecord). Performed b l.loads z w) made_before.did l.made));
  })

  pub no_stop_refused : (r : TakeRefusal) → r ≡ Lost now → LostStop room tail (min most room) first now b w → RefusedSomeBy (λ parts entries. Performed v entries (with_parts v.own parts) w) room most r
  no_stop_refused r is l = subst (λ (z : TakeRefusal). RefusedSomeBy (λ parts entries. Performed v entries (with_parts v.own parts) w) room most z) (sym is) (no_stop_by l)

  -- nothing was published at the tail
  pub none_some_error : (r : TakeRefusal) → IsNone tail b r w → WhyNotTaken v most r w → WhyNotTakenSome v most r w
  none_some_error (Empty at) n h = h
  none_some_error (ShortBuffer at count) n h = absurd n
  none_some_error (Lost at) n h = inl h
  none_some_error Closed n h = h

  pub none_some_refused : (r : TakeRefusal) → IsNone tail b r w → NoneBy (λ entries. Performed v entries (with_parts v.own 0) w) room r → RefusedSomeBy (λ parts entries. Performed v entries (with_parts v.own parts) w) room most r
  none_some_refused (Empty at) n h = h
  none_some_refused (ShortBuffer at count) n h = absurd n
  none_some_refused (Lost at) n h = inl h
  none_some_refused Closed n h = h

-- THE ANSWER

-- the slots are given back, and the end has one line more
line_own : (d c e : EndRecord) (o : BatchState) (n : ℕ) → c ≡ with_taking d o n → e.held ≡ no_slots → d.held ≡ e.held → with_no_slots c ≡ with_line d o n
line_own d c e o n is bare same = λ i. record { runs = (is i).runs; takes = (is i).takes; shuts = (is i).shuts; parts = (is i).parts; held = sym (same ∙ bare) i }

pub took_some_of : (room most tail count : ℕ) (items : List ℕ) (v w : View) (m m' : Me ℕ View) → v.own.held ≡ no_slots → HasTakenSome room most v tail items m → w ≡ m.0 → count ≡ length items → Released w (mark_word room tail) tail (tail + count) 2 m' → TookSome room v most items m'.0
took_some_of room most tail count items v w m m' bare h same many p = let t = h.taken in let o : BatchState = t.at_taking.object in let end : ℕ → Step BatchState = (λ z. change (mark_word room tail) p.found p.at (with_back p.at.object tail (tail + z))) in let d : EndRecord = with_parts v.own t.parts in (
  tail,
  p.found,
  p.at,
  record {
    some_item = t.some_item;
    within = t.within;
    at_tail = t.at_tail;
    parts = t.parts;
    looks = t.looks;
    stops = t.stops;
    at_taking = t.at_taking;
    first = t.first;
    added = let all = made_on v m.0 m'.0 _ (end (length items) ∷ []) (with_taking d o (length items)) p.own t.added
        (subst (λ (z : ℕ). Performed m.0 (end z ∷ []) p.own m'.0) many (subst (λ (z : View). Performed z (end count ∷ []) p.own m'.0) same p.step.made)) in record {
          adds = all.adds;
          did = all.did ∙ (p.given refl ∙ line_own d w.own v.own o (length items) (ap (λ (z : View). z.own) same ∙ t.added.did) bare refl);
          member = all.member;
        };
  },
)

some_line : (o : BatchState) (items : List ℕ) → AreSome o items → line_of (taking (positions_of o) (length items)) ≡ items
some_line o items f =
    part_items (cells (items_of o) o.phases) o.taken (length items)
    ∙ (ap (λ (z : List ℕ). take (length items) (drop o.taken z)) (items_of_cells (items_of o) o.phases) ∙ f.items_are)

may_part : (v w : View) (parts : ℕ) → parts ≤ 1 → w.own.parts ≡ v.own.parts + parts → MayPart v w
may_part v w parts low is = (omega arith, omega arith)

pub filled_some : (room most count : ℕ) (items old new : List ℕ) (v w : View) → count ≡ length items → new ≡ items ++ drop count old → TookSome room v most items w → FilledSome count old new v w
filled_some room most count items old new v w many is (tail, mark, m, t) = let made = t.added in let o : BatchState = t.at_taking.object in record {
  line = items;
  some_item = (let s = t.some_item in omega arith);
  long = sym many;
  buffer = is;
  took = record {
    puts = (λ k. map line_of (made.did k).runs);
    takes = (λ k. map line_of (made.did k).takes) ∙ (map-append line_of v.own.takes (taking (positions_of o) (length items) ∷ []) ∙ (λ k. map line_of v.own.takes ++ some_line o items t.first k ∷ []));
    share = ap (λ (z : Part). z.share) made.member;
  };
  parts = may_part v w t.parts (once room tail (min most room) _ t.parts t.looks t.stops) (ap (λ (z : EndRecord). z.parts) made.did);
}

pub took_some_first : (room most count : ℕ) (items old new : List ℕ) (v w : View) → count ≡ length items → new ≡ items ++ drop count old → TookSome room v most items w → TookSome room v most (take count new) w
took_some_first room most count items old new v w many is t = subst (λ (z : List ℕ). TookSome room v most z w) (sym ((λ i. take (many i) (is i)) ∙ take-append_seam items (drop count old))) t

-- THE MOMENT OF THE TAKING

pub were_some : (room most : ℕ) (items : List ℕ) (v w : View) → TookSome room v most items w → WereSome v items w
were_some room most items v w (tail, mark, m, t) = let e : Step BatchState = change tail_word tail t.at_taking (with_taken t.at_taking.object (tail + length items)) in let back : Step BatchState = change (mark_word room tail) mark m (with_back m.object tail (tail + length items)) in let first : Step BatchState = load tail_word tail t.at_tail in record {
  before = first ∷ t.looks;
  step = e;
  after = back ∷ [];
  adds = subst (λ (z : List (Step BatchState)). ExtendsTrace v z w) (ap (λ (z : List (Step BatchState)). first ∷ z) (append_assoc t.looks (e ∷ []) (back ∷ []))) t.added.adds;
  holds = (t.first, λ k. (t.added.did k).takes);
}

-- a batch was parted, or none, and only if the taking was full
parts_full : (room tail most to parts : ℕ) (es : List (Step BatchState)) → StopBy room tail most to parts es → (parts ≡ 0) ⊎ (to ≡ tail + most)
parts_full room tail most to parts es (all f is none) = inl none
parts_full room tail most to parts es (no_more mark r nothing none) = inl none
parts_full room tail most to parts es (one_more at mark more r on is fits none) = inl none
parts_full room tail most to parts es (within at mark before after again r on far is by are) = inr is

pub parts_if_full : (room most count : ℕ) (items : List ℕ) (v w : View) → count ≡ length items → TookSome room v most items w → PartsOnlyIfFull v room most count w
parts_if_full room most count items v w long (tail, mark, m, t) = let own : w.own.parts ≡ v.own.parts + t.parts = ap (λ (z : EndRecord). z.parts) t.added.did in ⊎_elim
    (λ none. inl (omega arith))
    (λ full. inr (omega arith))
    (parts_full room tail (min most room) _ t.parts t.looks t.stops)

-- at a moment at which the tail was already that of the taking, an item up to the next one was not published
pub took_short : (room most : ℕ) (v u b c : View) (tail mark new least n : ℕ) (m : Me ℕ View) → Found v tail_word tail u → Found u (mark_word room tail) mark b → least ≡ min most room → c.member.share ≡ b.member.share → c.own.takes ≡ v.own.takes → Took c tail new m → tail < new → (new ≡ tail + least) ⊎ StoppedShort tail new b c → n ≡ new - tail → TookAllPublished v room most n m.0
took_short room most v u b c tail mark new least n m x y is share same t less h long =
    let before : List (Step BatchState) = load tail_word tail u.seen ∷ load (mark_word room tail) mark b.seen ∷ [] in
    let made : Performed v before v.own b = made_on v u b (load tail_word tail u.seen ∷ []) (load (mark_word room tail) mark b.seen ∷ []) v.own v.own x.made (subst (λ (z : EndRecord). Performed u (load (mark_word room tail) mark b.seen ∷ []) z b) x.made.did y.made) in
    let e : Step BatchState = change tail_word tail t.at (with_taken t.at.object new) in
    let Q : BatchState → Type 0 = (λ later. (later.taken ≡ tail) × Grows c.seen.object later × TookThen v n later m.0) in
    let took : TookThen v n t.at.object m.0 = (λ k. (t.step.made.did k).takes) ∙ (λ k. same k ++ taking (positions_of t.at.object) (sym long k) ∷ []) in ⊎_elim
    (λ full. inl (omega arith))
    (λ s. inr (two_after v b m.0 before _ (ap (λ (z : Part). z.share) made.member) made.adds
    (two_of b c m.0 _ Q (λ o later. (o.taken ≡ later.taken) × LacksUpTo o (later.taken + n) × TookThen v n later m.0) share
    (λ o later p k. (let was = (found_tail v u tail x).0 in let g0 = y.grows.taken in let g1 = p.0.taken in let g2 = p.1.taken in let g3 = k.1.taken in let at = k.0 in (
      omega arith,
      subst (LacksUpTo o) (let a : new ≡ later.taken + n = omega arith in a) (p.2 (omega arith)),
      k.2,
    )))
    s (moment_now c m.0 e (with_taking c.own t.at.object (new - tail)) Q t.step.made (t.tail_is, t.step.grows, took)))))
    h

-- and then the places were given back
pub short_all : (room most n tail : ℕ) (v w u : View) (m' : Me ℕ View) → u.member.share ≡ v.member.share → w ≡ u → Released w (mark_word room tail) tail (tail + n) 2 m' → TookAllPublished v room most n u → TookAllPublished v room most n m'.0
short_all room most n tail v w u m' share same p h = let e : Step BatchState = change (mark_word room tail) p.found p.at (with_back p.at.object tail (tail + n)) in ⊎_elim
    (λ full. inl full)
    (λ s. inr (two_map v m'.0 _ _ (λ o later t. (t.0, t.1, (λ k. (p.step.made.did k).takes) ∙ ((λ k. (p.given refl k).takes) ∙ ((λ k. (same k).own.takes) ∙ t.2))))
    (two_then v u m'.0 (e ∷ []) _ share s (subst (λ (z : View). ExtendsTrace z (e ∷ []) m'.0) same p.step.made.adds))))
    h

-- WHERE NOTHING WAS TAKEN

same_made : (v w : View) (parts : ℕ) (entries : List (Step BatchState)) → parts ≤ 1 → Performed v entries (with_parts v.own parts) w → SameSome v w
same_made v w parts entries low m = (record { puts = (λ k. map line_of (m.did k).runs); takes = (λ k. map line_of (m.did k).takes); share = ap (λ (z : Part). z.share) m.member }, may_part v w parts low (ap (λ (z : EndRecord). z.parts) m.did))

pub refused_some : (room most : ℕ) (v w : View) (r : TakeRefusal) → RefusedSomeBy (λ parts entries. Performed v entries (with_parts v.own parts) w) room most r → SameSome v w
refused_some room most v w (Empty at) h = same_made v w 0 _ (omega arith) h.added
refused_some room most v w (ShortBuffer at count) h = absurd h
refused_some room most v w (Lost now) h = ⊎_elim (λ e. same_made v w 0 _ (omega arith) e.added)
    (λ t. ⊎_elim (λ p. same_made v w p.parts _ (once room p.tail (min most room) p.to p.parts p.looks p.stops) p.added) (λ n. same_made v w 0 _ (omega arith) n.added) t) h
refused_some room most v w Closed h = same_made v w 0 _ (omega arith) h.added

-- A BUFFER WITHOUT ROOM

pub same_some : (v w : View) → SameLines v w → SameSome v w
same_some v w h = let p = h.1 in (h.0, (omega arith, omega arith))

pub empty_error : (v w : View) (most : ℕ) (r : TakeRefusal) → most ≡ 0 → WhyNotTaken v most r w → WhyNotTakenSome v most r w
empty_error v w most (Empty at) none h = h
empty_error v w most (ShortBuffer at count) none h = (none, h)
empty_error v w most (Lost now) none h = inl h
empty_error v w most Closed none h = h

-- nothing is taken into it
pub empty_took : (room most : ℕ) (new : List ℕ) (v w : View) (r : Result ℕ TakeRefusal) → most ≡ 0 → MatchResult r (λ n. TookBatches room v most (take n new) w) (λ e. RefusedTake room v most e w) → IfOk r (λ n. WereSome v (take n new) w × TookAllPublished v room most n w × PartsOnlyIfFull v room most n w)
empty_took room most new v w (Ok n) none h = let a = h.3.some_item in let b = h.3.within in absurd (omega arith)
empty_took room most new v w (Err e) none h = tt
