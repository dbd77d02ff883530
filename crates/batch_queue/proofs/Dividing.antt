-- The meaning of the mark of a position at which a batch is parted.
use Rattle.batch_queue.proofs.Common.{HasStop, POSITIONS, tail_word, BatchState, EndRecord, Found, Grows, IsStop, IsWithin, List, Performed, MarkSays, AbsState, Parted, Step, View, [], ap, arith, at_last, change, dec_lt, dite, false, get_or, inl, inr, length, load, mark_word, phase_at, refl, subst, sym, true, mark_of, with_part, with_parting, ℕ, ℕ_discrete, ⊎_elim, ◌%◌, ◌++◌, ◌+◌, ◌/◌, ◌<◌, ◌∙◌, ◌∷◌, ◌≡◌, ◌≢◌, ◌≤◌, ◌⊎◌}
use Rattle.std.specs.Prelude.{Bool, MatchBool, IsTrue}
use Rattle.std.proofs.Common.{true≢false}
use Rattle.table_theory.proofs.Parting.{made_on}
use Rattle.batch_queue.specs.Moments.{MarkChanged}
use Rattle.batch_queue.specs.Parts.{FoundRest, LostWithin, PartedLook, StoppedWithin, WhyNoStop, already, changed, given, meanwhile, not_parted, parted, passed, with_parts}
use Rattle.batch_queue.specs.Walks.{LeadsOn}
use Rattle.table_theory.specs.declared.views.Part.{Part}
use Rattle.batch_queue.proofs.Growing.{batch_below, claimed_at, freed_taken, grows_trans, real_grows}
use Rattle.batch_queue.proofs.Looking.{found_tail, step_next}
use Rattle.batch_queue.proofs.Stepping.{step_real}
use Rattle.batch_queue.proofs.Stops.{rest_on, within_on}
use Rattle.table_theory.proofs.Moments.{moment_now}
use Rattle.batch_queue.proofs.Quiet.{others_after, others_then}
use Rattle.batch_queue.proofs.Walking.{found_real, mark_at, seen_room}

pub none_parted : (d : EndRecord) → d ≡ with_parts d 0
none_parted d = λ i. record d { parts = (let e : d.parts ≡ d.parts + 0 = omega arith in e) i }

-- the end looked, and parted nothing
pub made_none_parted : (v w : View) (entries : List (Step BatchState)) → Performed v entries v.own w → Performed v entries (with_parts v.own 0) w
made_none_parted v w entries m = subst (λ (z : EndRecord). Performed v entries z w) (none_parted v.own) m

-- the mark led on, or it is not known to
pub stop_if : (A B : Type 0) (b : Bool) → MatchBool b A (A → ⊥) → (A → B) → IsTrue b → B
stop_if A B true a f h = f a
stop_if A B false a f h = absurd (true≢false (sym h))

-- a mark past its position that is not that of a batch is that of a taking
pub odd_on : (p mark : ℕ) → (LeadsOn 0 p mark → ⊥) → p < mark / 2 → LeadsOn 1 p mark
odd_on p mark none past = dite (ℕ_discrete (mark % 2) 0) (λ even. absurd (none (even, past))) (λ odd. (omega arith, past))

-- a mark was changed during a longer call
changed_on : (v u c w : View) (p : ℕ) (xs ys : List (Step BatchState)) {a b : EndRecord} → Performed v xs a u → Performed c ys b w → u.member.share ≡ v.member.share → c.member.share ≡ v.member.share → MarkChanged u p c → MarkChanged v p w
changed_on v u c w p xs ys m n share share' h = others_then v c w ys _ share' (others_after v u c xs _ share m.adds h) n.adds

-- a mark that was found is the one that the queue had
pub mark_found : (room : ℕ) (v u : View) (p mark : ℕ) → Found v (mark_word room p) mark u → u.first.room ≡ room → mark_of u.seen.object p ≡ mark
mark_found room v u p mark f rooms = let r = found_real v u (mark_word room p) mark f in let same : u.seen.object.room ≡ room = seen_room u f.ruled ∙ rooms in
    sym (r.shows.marks_are p) ∙ (ap (λ (z : ℕ). get_or r.words (mark_word z p) 0) same ∙ sym r.is)

module _ (room : ℕ) (v u : View) (p end mark : ℕ) (f : Found v (mark_word room p) mark u) (rooms : v.first.room ≡ room) (within : IsWithin v.seen.object p end) where
  abbrev o : BatchState
  o = u.seen.object

  abbrev one : Step BatchState
  one = load (mark_word room p) mark u.seen

  pub still_within : IsWithin o p end
  still_within = within_on v.seen.object o f.grows p end within

  pub still_rooms : u.first.room ≡ room
  still_rooms = ap (λ (z : BatchState). z.room) f.made.adds.first ∙ rooms

  -- what the mark says, unless the tail has passed
  says : p < mark / 2 → (p < o.taken) ⊎ (MarkSays o p mark × (phase_at o p ≤ 1))
  says past = let r = found_real v u (mark_word room p) mark f in let l = r.lawful in let same : o.room ≡ room = seen_room u f.ruled ∙ still_rooms in
      dite (dec_lt p o.taken) (λ y. inl y) (λ no. (let a = freed_taken o l in let c = claimed_at o l p still_within.2 in
      inr (mark_at o r.words p mark l r.shows (omega arith) (omega arith) (ap (λ (z : ℕ). get_or r.words (mark_word z p) 0) same ∙ sym r.is) past, l.after p (omega arith))))

  pub stop_found : LeadsOn 0 p mark → (p < o.taken) ⊎ IsStop o p
  stop_found on = ⊎_elim (λ y. inl y) (λ t. inr (t.0.whole on.0 on.1).0) (says on.1)

  pub passed_given : LeadsOn 1 p mark → p < o.taken
  passed_given on = ⊎_elim (λ y. y) (λ t. absurd (let b = t.0.back on.0 p (omega arith) on.1 in let low = t.1 in omega arith)) (says on.1)

  pub already_look : LeadsOn 0 p mark → PartedLook room p end true v u
  already_look on = record { entries = one ∷ []; parts = 0; by = already mark u.seen on refl refl; made = made_none_parted v u (one ∷ []) f.made }

  pub given_look : LeadsOn 1 p mark → PartedLook room p end false v u
  given_look on = record { entries = one ∷ []; parts = 0; by = (refl, given mark u.seen on refl); made = made_none_parted v u (one ∷ []) f.made }

  module _ (w : View) (low : mark / 2 ≤ p) where
    pub parted_grows : Parted u (mark_word room p) mark p end w → Grows v.seen.object w.seen.object
    parted_grows t = let e : Step BatchState = change (mark_word room p) mark t.0 (with_part t.0.object p end) in let real = step_real u w e (with_parting u.own) t.1 in
        grows_trans v.seen.object u.seen.object w.seen.object f.grows (grows_trans u.seen.object t.0.object w.seen.object t.1.grows (subst (λ (z : AbsState BatchState). Grows t.0.object z.object) (step_next u w e (with_parting u.own) t.1) (real_grows e real)))

    pub parted_stop : Parted u (mark_word room p) mark p end w → IsStop w.seen.object p
    parted_stop t = let e : Step BatchState = change (mark_word room p) mark t.0 (with_part t.0.object p end) in
        subst (λ (z : AbsState BatchState). IsStop z.object p) (step_next u w e (with_parting u.own) t.1) (inr (length t.0.object.parted, at_last t.0.object.parted p (length t.0.object.parted) refl))

    pub parted_look : Parted u (mark_word room p) mark p end w → PartedLook room p end true v w
    parted_look t = let e : Step BatchState = change (mark_word room p) mark t.0 (with_part t.0.object p end) in record {
      entries = one ∷ e ∷ [];
      parts = 1;
      by = parted mark u.seen t.0 low refl refl;
      made = made_on v u w (one ∷ []) (e ∷ []) v.own (with_parts v.own 1) f.made (subst (λ (z : EndRecord). Performed u (e ∷ []) z w) (ap with_parting f.made.did) t.1.made);
    }

    module _ (found : ℕ) (ne : found ≢ mark) (g : Found u (mark_word room p) found w) where
      abbrev two : Step BatchState
      two = load (mark_word room p) found w.seen

      both : Performed v (one ∷ two ∷ []) v.own w
      both = made_on v u w (one ∷ []) (two ∷ []) v.own v.own f.made (subst (λ (z : EndRecord). Performed u (two ∷ []) z w) f.made.did g.made)

      pub meanwhile_look : LeadsOn 0 p found → PartedLook room p end true v w
      meanwhile_look on = record { entries = one ∷ two ∷ []; parts = 0; by = meanwhile mark found u.seen w.seen low ne on refl refl; made = made_none_parted v w (one ∷ two ∷ []) both }

      pub changed_look : (LeadsOn 0 p found → ⊥) → PartedLook room p end false v w
      changed_look none = record { entries = one ∷ two ∷ []; parts = 0; by = (refl, changed mark found u.seen w.seen low ne none refl); made = made_none_parted v w (one ∷ two ∷ []) both }

      pub found_look : (b : Bool) → MatchBool b (LeadsOn 0 p found) (LeadsOn 0 p found → ⊥) → PartedLook room p end b v w
      found_look true on = meanwhile_look on
      found_look false none = changed_look none

      later_rooms : w.first.room ≡ room
      later_rooms = ap (λ (z : BatchState). z.room) g.made.adds.first ∙ still_rooms

      pub mark_changed : MarkChanged v p w
      mark_changed = record {
        moments = record { before = []; first = one; between = []; second = two; after = []; adds = both.adds; holds = λ e. ne (sym (mark_found room u w p found g later_rooms) ∙ (sym e ∙ mark_found room v u p mark f still_rooms)) };
        quiet = (refl, tt);
      }

-- THE STOP WITHIN A BATCH

pub rest_grows : (v w : View) (tail p e : ℕ) → Grows v.seen.object w.seen.object → FoundRest v tail p e → FoundRest w tail p e
rest_grows v w tail p e g h = ⊎_elim
    (λ past. (let t = g.taken in inl (let l : tail < v.seen.object.taken = past in omega arith)))
    (λ all. inr ((λ i a b. let x = all.0 i a b in let q = g.phases i in omega arith), rest_on v.seen.object.batches w.seen.object.batches g.more.0 p e g.more.1 all.1))
    h

-- if the tail was found again, the position is within the batch
pub within_now : (v u : View) (tail at end last : ℕ) → Found v tail_word tail u → FoundRest v tail at end → tail ≤ at → at < last → last < end → IsWithin u.seen.object last end
within_now v u tail at end last f h low less far = let is = (found_tail v u tail f).0 in ⊎_elim
    (λ past. absurd (let l : tail < u.seen.object.taken = past in omega arith))
    (λ all. (let r = all.1 in let from = r.from in (record { start = r.start; batch = r.batch; from = omega arith; some_item = far }, omega arith, all.0 last (omega arith) far)))
    (rest_grows v u tail at end f.grows h)

-- and ends no further than the places reach
pub near_now : (room : ℕ) (v u : View) (tail last end : ℕ) → Found v tail_word tail u → v.first.room ≡ room → tail ≤ last → IsWithin u.seen.object last end → (end ≤ last + room) × (end < POSITIONS)
near_now room v u tail last end f rooms low w = let is = (found_tail v u tail f).0 in let real = found_real v u tail_word tail f in let l = real.lawful in let o : BatchState = u.seen.object in
    let b = batch_below o w.0.start end w.0.batch in let i = l.within in let a = freed_taken o l in let c = real.shows.bounded in
    let same : o.room ≡ room = seen_room u f.ruled ∙ (ap (λ (z : BatchState). z.room) f.made.adds.first ∙ rooms) in (omega arith, omega arith)

-- all up to there is published
pub up_to_stop : (v w : View) (tail at end last : ℕ) → Grows v.seen.object w.seen.object → FoundRest v tail at end → last < end → (last < w.seen.object.taken) ⊎ IsStop w.seen.object last → tail ≤ last → HasStop w tail last
up_to_stop v w tail at end last g h far stop low = ⊎_elim
    (λ past. inl past)
    (λ all. ⊎_elim (λ past. inl (let l : last < w.seen.object.taken = past in omega arith)) (λ s. inr ((λ i a b. all.0 i a (omega arith)), s)) stop)
    (rest_grows v w tail at end g h)

pub stopped_within : (room tail last end : ℕ) (v u w : View) → Found v tail_word tail u → PartedLook room last end true u w → StoppedWithin room tail last end v w
stopped_within room tail last end v u w f p = record {
  again = u.seen;
  after = p.entries;
  parts = p.parts;
  by = p.by;
  made = made_on v u w (load tail_word tail u.seen ∷ []) p.entries v.own (with_parts v.own p.parts) f.made (subst (λ (z : EndRecord). Performed u p.entries (with_parts z p.parts) w) f.made.did p.made);
}

pub passed_within : (room tail last now : ℕ) (v u : View) → tail ≤ v.seen.object.taken → now ≢ tail → Found v tail_word now u → LostWithin room tail last now v u
passed_within room tail last now v u low ne f = let is = (found_tail v u now f).0 in let g = f.grows.taken in passed (omega arith) u.seen f.made

pub passed_why : (tail last now : ℕ) (v u : View) → tail ≤ v.seen.object.taken → now ≢ tail → Found v tail_word now u → WhyNoStop tail last now v u
passed_why tail last now v u low ne f = let is = (found_tail v u now f).0 in let g = f.grows.taken in inl (moment_now v u (load tail_word now u.seen) v.own _ f.made (omega arith, sym is))

module _ (room tail last finish now : ℕ) (v u c w : View) (f : Found v tail_word tail u) (p : PartedLook room last finish false u c) (t : Found c tail_word now w) where
  abbrev again : List (Step BatchState)
  again = load tail_word tail u.seen ∷ []

  abbrev end : List (Step BatchState)
  end = load tail_word now w.seen ∷ []

  own_is : c.own ≡ v.own
  own_is = p.made.did ∙ ((λ i. record u.own { parts = (let n = p.by.0 in let e : u.own.parts + p.parts ≡ u.own.parts = omega arith in e) i }) ∙ f.made.did)

  all : Performed v (again ++ (p.entries ++ end)) v.own w
  all = made_on v u w again (p.entries ++ end) v.own v.own f.made (made_on u c w p.entries end (with_parts u.own p.parts) v.own p.made (subst (λ (z : EndRecord). Performed c end z w) own_is t.made))

  pub lost_within : LostWithin room tail last now v w
  lost_within = not_parted u.seen w.seen p.entries p.by.1 all

  now_is : w.seen.object.taken ≡ now
  now_is = sym (found_tail c w now t).0

  pub lost_why : tail ≤ last → ((last < c.seen.object.taken) ⊎ MarkChanged u last c) → WhyNoStop tail last now v w
  lost_why low h = let g = t.grows.taken in let is = now_is in let last_step = load tail_word now w.seen in ⊎_elim
      (λ past. inl record { before = again ++ p.entries; step = last_step; after = []; adds = all.adds; holds = (let l : last < c.seen.object.taken = past in omega arith, now_is) })
      (λ m. inr (record { before = again ++ p.entries; step = last_step; after = []; adds = all.adds; holds = now_is }, changed_on v u c w last again end f.made t.made (ap (λ (z : Part). z.share) f.made.member) (ap (λ (z : Part). z.share) (p.made.member ∙ f.made.member)) m))
      h
