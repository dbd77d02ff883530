-- The steps of a claim, taken together.
use Rattle.batch_queue.proofs.Common.{BatchState, Bool, Claimed, EndRecord, Found, List, Performed, Me, AbsState, POSITIONS, SHUT, Step, View, [], ap, append-nil, arith, change, dec_le, dite, false, head_word, inl, inr, items_of, length, length-take-le, load, mark, nat_lt, refl, slots_of, with_shut, with_shutting, subst, sym, take, true, with_batch, with_run, ℕ, ◌++◌, ◌+◌, ◌<◌, ◌∙◌, ◌∷◌, ◌≡◌, ◌≢◌, ◌≤◌, ◌⊎◌}
use Rattle.std.proofs.Common.{true≢false}
use Rattle.std.specs.Prelude.{min, not, IsFalse, IsTrue}
use Rattle.std.proofs.lemmas.Bool.{le-ltb, lt-ltb}
use Rattle.batch_queue.specs.Steps.{Shut}
use Rattle.table_theory.proofs.Parting.{made_then}
use Rattle.table_theory.specs.declared.views.Part.{Part}
use Rattle.batch_queue.specs.Moments.{AtSomeMoment, AtTwoMoments, ChangedByOthers, claimed, IsGivenBackTo, IsOpenAt}
use Rattle.batch_queue.specs.Object.{Grows}
use Rattle.batch_queue.specs.Own.{OnlyLoads}
use Rattle.batch_queue.specs.Puts.{Fits, HasClaimed, FoundOther, LackedRoom}
use Rattle.batch_queue.specs.Walks.{FreeBy, LookedFree}
use Rattle.batch_queue.proofs.Growing.{batch_items, items_grow}
use Rattle.batch_queue.proofs.Heading.{open_head}
use Rattle.batch_queue.proofs.Looking.{distinct_runs, step_next}
use Rattle.table_theory.proofs.Moments.{moment_after, moment_map, moment_now, moment_then, two_by}
use Rattle.batch_queue.specs.Client.{HasShut, HasUsedRoom}
use Rattle.batch_queue.proofs.Quiet.{others_after, others_map, others_then}
use Rattle.batch_queue.proofs.Stepping.{step_real}
use Rattle.batch_queue.proofs.Walking.{found_real, seen_room}

-- THE HEAD

pub head_is : (v w : View) (head : ℕ) → Found v head_word head w → (head ≡ claimed w.seen.object + mark w.seen.object.shut) × (claimed w.seen.object < POSITIONS)
head_is v w head f = let r = found_real v w head_word head f in (r.is ∙ r.shows.head, r.shows.bounded)

pub head_open : (v w : View) (head : ℕ) → Found v head_word head w → head < SHUT → (w.seen.object.shut ≡ false) × (head ≡ claimed w.seen.object)
head_open v w head f low = open_head w.seen.object.shut (claimed w.seen.object) head (head_is v w head f).0 low

marked_shut : (b : Bool) (n w : ℕ) → w ≡ n + mark b → n < SHUT → SHUT ≤ w → b ≡ true
marked_shut true n w is low high = refl
marked_shut false n w is low high = absurd (omega arith)

pub head_shut : (v w : View) (head : ℕ) → Found v head_word head w → SHUT ≤ head → w.seen.object.shut ≡ true
head_shut v w head f high = let h = head_is v w head f in let low = h.1 in marked_shut w.seen.object.shut (claimed w.seen.object) head h.0 (omega arith) high

-- an end that has seen the queue shut finds the mark
pub still_shut : {A : Type 0} (v w : View) (head : ℕ) → Found v head_word head w → head < SHUT → v.seen.object.shut ≡ true → A
still_shut v w head f low shut = absurd (true≢false (sym (f.grows.shut shut) ∙ (head_open v w head f low).0))

pub was_shut : (v w : View) (head : ℕ) → Found v head_word head w → SHUT ≤ head → AtSomeMoment v w (λ o. o.shut ≡ true)
was_shut v w head f high = moment_now v w (load head_word head w.seen) v.own _ f.made (head_shut v w head f high)

pub was_spent : (v w : View) (head count : ℕ) → Found v head_word head w → head < SHUT → POSITIONS ≤ head + count → AtSomeMoment v w (λ o. (o.shut ≡ false) × (POSITIONS ≤ claimed o + count))
was_spent v w head count f low past = moment_now v w (load head_word head w.seen) v.own _ f.made (let h = head_open v w head f low in let is = h.1 in (h.0, omega arith))

-- the head was loaded, and the queue was open
pub was_open : (v w : View) (head : ℕ) → Found v head_word head w → head < SHUT → IsOpenAt w.seen.object head
was_open v w head f low = let h = head_open v w head f low in (h.0, sym h.1)

not_marked : (b : Bool) (n w : ℕ) → w ≡ n + mark b → n < SHUT → b ≡ not (nat_lt w SHUT)
not_marked true n w is low = ap not (sym (le-ltb w SHUT (omega arith)))
not_marked false n w is low = ap not (sym (lt-ltb w SHUT (omega arith)))

-- the queue was shut, by this end if it was open
pub has_shut : (v w : View) (found : ℕ) → Shut v found w → HasShut v (nat_lt found SHUT) w
has_shut v w found (at, s) = let o : BatchState = at.object in let e : Step BatchState = change head_word found at (with_shut o) in let own : EndRecord = with_shutting v.own (nat_lt found SHUT) in let r = step_real v w e own s in let low = r.shows.bounded in (
  moment_now v w e own _ s.made (not_marked o.shut (claimed o) found (r.is ∙ r.shows.head) (omega arith)),
  ap (λ (z : AbsState BatchState). z.object.shut) (sym (step_next v w e own s)),
  ap (λ (z : EndRecord). z.shuts) s.made.did,
)

-- one of two cases
by_case : (A B : Type 0) (b : Bool) → (IsFalse b → A) → (IsTrue b → B) → A ⊎ B
by_case A B false f g = inl (f refl)
by_case A B true f g = inr (g refl)

-- THE HEAD AND THE FREE POSITION

module _ (room want least : ℕ) (v u b : View) (head free : ℕ) (moved : Bool) (x : Found v head_word head u) (y : LookedFree room (head + want) free moved u b) (low : head < SHUT) (bounded : head + want < POSITIONS) where
  abbrev first : Step BatchState
  first = load head_word head u.seen

  two : Performed v (first ∷ y.entries) v.own b
  two = made_then v u b (first ∷ []) y.entries v.own (λ d. d) x.made y.made

  share : u.member.share ≡ v.member.share
  share = ap (λ (z : Part). z.share) x.made.member

  pub lacked : (was : Bool) → moved ≡ was → free + room < head + least → LackedRoom (λ entries. OnlyLoads v entries b) room want least head free was
  lacked was is over = record { at_head = u.seen; bounded = bounded; looks = y.entries; looked = subst (λ (z : Bool). FreeBy room (head + want) free z y.entries) is y.by; over = over; added = two }

  pub was_moved : free + room < head + least → ChangedByOthers u b (λ o later. (o.freed < later.freed) × (later.freed ≡ free)) → AtSomeMoment v b (λ o. IsOpenAt o head) × ChangedByOthers v b (λ o later. (o.freed < later.freed) × (later.freed + room < head + least))
  was_moved over c = (
    record { before = []; step = first; after = y.entries; adds = two.adds; holds = was_open v u head x low },
    others_after v u b (first ∷ []) _ share x.made.adds (others_map u b _ _ (λ o later h. (h.0, let is = h.1 in omega arith)) c),
  )

  -- no room is further on than twice the places
  pub near : want ≤ room → v.first.room ≡ room → head + want ≤ u.seen.object.freed + room + room
  near fits rooms = let r = found_real v u head_word head x in let is = (head_open v u head x low).1 in let w = r.lawful.within in
      let same : u.seen.object.room ≡ room = seen_room u x.ruled ∙ (ap (λ (z : BatchState). z.room) x.made.adds.first ∙ rooms) in omega arith

  pub was_full : AtSomeMoment u b (λ o. Grows u.seen.object o × IsGivenBackTo o free) → AtTwoMoments v b (λ o later. IsOpenAt o head × (head ≤ claimed later) × IsGivenBackTo later free)
  was_full s = two_by v u b first v.own (λ o later. IsOpenAt o head × (head ≤ claimed later) × IsGivenBackTo later free) x.made
      (moment_map u b _ _ (λ o h. let is = (head_open v u head x low).1 in let g = items_grow u.seen.object o h.0 in (was_open v u head x low, omega arith, h.1)) s)

  -- what was claimed is all that there was room for
  pub used_room : (n : ℕ) (items : List ℕ) (m : Me ℕ View) → head + n ≡ min (head + want) (free + room) → (IsFalse moved → free + room < head + want → AtSomeMoment u b (λ o. Grows u.seen.object o × IsGivenBackTo o free)) → (IsTrue moved → ChangedByOthers u b (λ o later. (o.freed < later.freed) × (later.freed ≡ free))) → Claimed b head items m → HasUsedRoom v room want head n m.0
  used_room n items m end still passed c = let e : Step BatchState = change head_word head c.at (with_batch c.at.object items) in let same : b.member.share ≡ v.member.share = ap (λ (z : Part). z.share) two.member in dite (dec_le (head + want) (free + room))
      (λ there. inl (omega arith))
      (λ over. inr (
        free,
        omega arith,
        by_case _ _ moved
            (λ no. moment_then v b m.0 (e ∷ []) _ same (moment_after v u b (first ∷ []) _ share x.made.adds (moment_map u b _ _ (λ o h. h.1) (still no (omega arith)))) c.step.made.adds)
            (λ yes. others_then v b m.0 (e ∷ []) _ same (others_after v u b (first ∷ []) _ share x.made.adds (passed yes)) c.step.made.adds),
      ))

  pub other : (w : View) (found : ℕ) → head + least ≤ free + room → Found b head_word found w → FoundOther (λ entries. OnlyLoads v entries w) room want least head found
  other w found there z = record { at_head = u.seen; bounded = bounded; free = free; moved = moved; looks = y.entries; looked = y.by; there = there; at_exchange = w.seen; added = made_then v b w (first ∷ y.entries) (load head_word found w.seen ∷ []) v.own (λ d. d) two z.made }

  pub other_shut : (w : View) (found : ℕ) → Found b head_word found w → SHUT ≤ found → AtSomeMoment v w (λ o. o.shut ≡ true)
  other_shut w found z high = moment_after v b w (first ∷ y.entries) _ (ap (λ (z : Part). z.share) two.member) two.adds (was_shut b w found z high)

  -- the head that was found is past the one that was loaded
  pub other_past : Grows u.seen.object b.seen.object → (w : View) (found : ℕ) → Found b head_word found w → found < SHUT → found ≢ head → (head < found) × AtTwoMoments v w (λ o later. (claimed o < claimed later) × IsOpenAt later found)
  other_past g w found z is_open ne = let h = (head_open v u head x low).1 in let h' = (head_open b w found z is_open).1 in let g1 = items_grow u.seen.object b.seen.object g in let g2 = items_grow b.seen.object w.seen.object z.grows in let less : head < found = omega arith in
      (less, two_by v u w first v.own (λ o later. (claimed o < claimed later) × IsOpenAt later found) x.made (moment_after u b w y.entries _ (ap (λ (z : Part). z.share) y.made.member) y.made.adds (moment_now b w (load head_word found w.seen) b.own _ z.made (omega arith, was_open b w found z is_open))))

  pub has_claimed : (items : List ℕ) (m : Me ℕ View) → Fits room (length items) → head + length items ≡ min (head + want) (free + room) → v.first.room ≡ room → Claimed b head items m → HasClaimed room want v head items m
  has_claimed items m fits end rooms c = record {
    claim = record { fits = fits; at_head = u.seen; bounded = bounded; free = free; moved = moved; looks = y.entries; looked = y.by; end = end; at_claim = c.at; added = made_then v b m.0 (first ∷ y.entries) (change head_word head c.at (with_batch c.at.object items) ∷ []) v.own (λ d. with_run d head items) two c.step.made };
    at = (let o : BatchState = c.at.object in let e : Step BatchState = change head_word head c.at (with_batch o items) in let r = step_real b m.0 e (with_run b.own head items) c.step in let h = open_head o.shut (claimed o) head (r.is ∙ r.shows.head) low in (h.0, c.head_is));
    apart = distinct_runs m.0 c.step.ruled;
    range = let own = c.step.made.did in record { in_phase = ap (λ (z : EndRecord). z.held.phase) own; start_is = ap (λ (z : EndRecord). z.held.start) own; count_is = ap (λ (z : EndRecord). z.held.count) own; some_slot = fits.0; bounded = omega arith };
    is = (items_of c.at.object, [], c.head_is, ap (λ (z : AbsState BatchState). items_of z.object) (sym (step_next b m.0 (change head_word head c.at (with_batch c.at.object items)) (with_run b.own head items) c.step)) ∙ (batch_items c.at.object items ∙ ap (λ (z : List ℕ). items_of c.at.object ++ z) (sym (append-nil items))));
    values = c.values;
    many = c.many;
    slots = c.slots ∙ ap (λ (z : ℕ). slots_of z head c.values) (ap (λ (z : BatchState). z.room) two.adds.first ∙ rooms);
  }

  -- the first n of the items were claimed
  pub claimed_front : (n : ℕ) (items xs : List ℕ) (m : Me ℕ View) → xs ≡ take n items → 0 < n → n ≤ length items → n ≤ room → head + n ≡ min (head + want) (free + room) → v.first.room ≡ room → Claimed b head xs m → HasClaimed room want v head (take n items) m
  claimed_front n items xs m is some fits few end rooms c = let long = length-take-le n items fits in has_claimed (take n items) m (omega arith, omega arith) (ap (λ (z : ℕ). head + z) long ∙ end) rooms (subst (λ (z : List ℕ). Claimed b head z m) is c)
