-- The result of a walk along the marks.
use Rattle.batch_queue.proofs.Common.{IsStop, IsRest, ◌⊎◌, BatchState, Found, Grows, IsEdge, IsValidStep, InvHeldOf, IsSame, IsSeated, Lawful, List, Performed, MarkSays, AbsState, Stays, Step, View, WordsShow, [], add-mod_right, ap, append-nil, arith, concat, dec_le, dec_lt, dite, get_or, inl, inr, items_of, length, load, mark_word, of_batches, phase_at, refl, subst, suc, sym, zero, ℕ, ⊎_elim, ◌%◌, ◌++◌, ◌+◌, ◌/◌, ◌<◌, ◌∙◌, ◌∷◌, ◌≡◌, ◌≤◌}
use Rattle.atomic_table.specs.Seated.{TableId}
use Rattle.atomic_table.specs.declared.shared.Seat.{Seat}
use Rattle.table_theory.proofs.Parting.{made_none, made_then}
use Rattle.table_theory.specs.declared.views.Part.{Part}
use Rattle.batch_queue.specs.Moments.{IsGivenBackTo}
use Rattle.batch_queue.specs.Object.{NoneFits}
use Rattle.batch_queue.specs.Walks.{LeadsOn, Walk, IsWalk, at_most, at_mark, Followed, Passed, Starts, StoppedAt, StoppedUp, end_of, walked}
use Rattle.batch_queue.proofs.Growing.{freed_taken, taken_claimed, claimed_at, grows_refl, grows_trans}
use Rattle.batch_queue.proofs.Whole.{edge_on, edge_batch, batch_end, concat_grows}
use Rattle.batch_queue.proofs.Stepping.{first_room, step_real}

-- THE END

-- a step leaves the end at its table
pub still_seated : (room : ℕ) (table : TableId) (old new : Seat ℕ View) → IsSeated room table old → IsSame old new → Stays old.me.0 new.me.0 → IsSeated room table new
still_seated room table old new q same s = record {
  one = same.0 ∙ q.one;
  live = subst (λ (z : Part). 1 ≤ z.ends) (sym s.1) q.live;
  rooms = ap (λ (z : BatchState). z.room) s.0 ∙ q.rooms;
  words = q.words;
  slots = q.slots;
  some_room = q.some_room;
  most = q.most;
  power = q.power;
}

-- the queue that the end sees has as many places
pub seen_room : (w : View) → InvHeldOf w → w.seen.object.room ≡ w.first.room
seen_room w r = ap (λ (z : AbsState BatchState). z.object.room) r.seen ∙ sym (first_room r.key r.state r.rule r.number w r.here)

-- a number that was found is that of a real step
pub found_real : (v w : View) (word r : ℕ) → Found v word r w → IsValidStep of_batches (load word r w.seen)
found_real v w word r f = step_real v w (load word r w.seen) v.own f

-- THE MARKS

-- a mark that leads on, of a position of the window or of the next position after it, says what it says
pub mark_at : (o : BatchState) (words : List ℕ) (p m : ℕ) → Lawful o → WordsShow o words → o.freed ≤ p → p ≤ length (items_of o) → get_or words (mark_word o.room p) 0 ≡ m → p < m / 2 → MarkSays o p m
mark_at o words p m l h from to is on = dite (dec_lt p (o.freed + o.room))
    (λ y. subst (MarkSays o p) is (h.marks p from y))
    (λ far. (let w = l.within in let room = l.some_room in let e : p ≡ o.freed + o.room = omega arith in
    let same : mark_word o.room o.freed ≡ mark_word o.room p = ap (λ (z : ℕ). z + 48) (sym (add-mod_right o.freed o.room) ∙ ap (λ (z : ℕ). z % o.room) (sym e)) in
    let old = (h.marks o.freed (omega arith) (omega arith)).bound in let is' : get_or words (mark_word o.room o.freed) 0 ≡ m = ap (λ (z : ℕ). get_or words z 0) same ∙ is in
    let b : m / 2 ≤ o.freed + o.room = subst (λ (z : ℕ). z / 2 ≤ o.freed + o.room) is' old in absurd (omega arith)))

-- positions up to here are published, so they were claimed
pub up_claimed : (o : BatchState) → Lawful o → (from to : ℕ) → from ≤ length (items_of o) → ((i : ℕ) → from ≤ i → i < to → 1 ≤ phase_at o i) → to ≤ length (items_of o)
up_claimed o l from zero h f = omega arith
up_claimed o l from (suc to) h f = dite (dec_le from to) (λ le. let c = claimed_at o l to (f to le (omega arith)) in omega arith) (λ n. omega arith)

pub edge_within : (bs : List (List ℕ)) (p : ℕ) → IsEdge bs p → p ≤ length (concat bs)
edge_within bs p e = let at = e.at in let g = concat_grows e.before bs e.rest e.all in omega arith

-- WHAT WAS PASSED

pub passed_grows : (parity : ℕ) (v w : View) (from to : ℕ) → Grows v.seen.object w.seen.object → Passed parity v from to → Passed parity w from to
passed_grows zero v w from to g h = ⊎_elim
    (λ l. let t = g.taken in inl (let l' : from < v.seen.object.taken = l in omega arith))
    (λ f. inr ((λ i a b. let x = f.0 i a b in let p = g.phases i in omega arith), edge_on v.seen.object.batches w.seen.object.batches g.more.0 to g.more.1 f.1))
    h
passed_grows (suc parity) v w from to g h = ⊎_elim
    (λ l. let t = g.freed in inl (let l' : from < v.seen.object.freed = l in omega arith))
    (λ f. inr ((λ i a b. let x = f.0 i a b in let p = g.phases i in omega arith), edge_on v.seen.object.takings w.seen.object.takings g.takings.0 to g.takings.1 f.1))
    h

-- from here to there all was found published, or the tail has passed
pub up_more : (room : ℕ) (v w : View) (base p mark : ℕ) → base ≤ p → base ≤ v.seen.object.taken → (base < v.seen.object.taken) ⊎ ((i : ℕ) → base ≤ i → i < p → 1 ≤ phase_at v.seen.object i) → Found v (mark_word room p) mark w → w.first.room ≡ room → LeadsOn 0 p mark
    → (base < w.seen.object.taken) ⊎ (((i : ℕ) → base ≤ i → i < mark / 2 → 1 ≤ phase_at w.seen.object i) × IsStop w.seen.object p × IsRest w.seen.object.batches p (mark / 2))
up_more room v w base p mark on started h f rooms leads = let o : BatchState = w.seen.object in let r = found_real v w (mark_word room p) mark f in let g = f.grows in let l = r.lawful in let same : o.room ≡ room = seen_room w f.ruled ∙ rooms in let t = g.taken in
    dite (dec_lt base o.taken) (λ past. inl past) (λ here. ⊎_elim
    (λ past. absurd (let l' : base < v.seen.object.taken = past in omega arith))
    (λ was. (let all : (i : ℕ) → base ≤ i → i < p → 1 ≤ phase_at o i = (λ i a b. let x = was i a b in let q = g.phases i in omega arith) in let a = freed_taken o l in let b = taken_claimed o l in
    let m = mark_at o r.words p mark l r.shows (omega arith) (up_claimed o l base p (omega arith) all) (ap (λ (z : ℕ). get_or r.words (mark_word z p) 0) same ∙ sym r.is) leads.1 in let whole = m.whole leads.0 leads.1 in
    inr ((λ i c d. dite (dec_lt i p) (λ low. all i c low) (λ high. m.up leads.0 i (omega arith) d)), whole.0, whole.1)))
    h)

-- one mark more was passed
pub passed_more : (parity room : ℕ) (v w : View) (base p mark : ℕ) → parity ≤ 1 → base ≤ p → Starts parity v base → Passed parity v base p → Found v (mark_word room p) mark w → w.first.room ≡ room → LeadsOn parity p mark → Passed parity w base (mark / 2)
passed_more zero room v w base p mark low on started h f rooms leads = ⊎_elim (λ past. inl past) (λ u. inr (u.0, batch_end w.seen.object.batches _ _ u.2.batch))
    (up_more room v w base p mark on started (⊎_elim (λ past. inl past) (λ all. inr all.0) h) f rooms leads)
passed_more (suc zero) room v w base p mark low on started h f rooms leads = let o : BatchState = w.seen.object in let r = found_real v w (mark_word room p) mark f in let g = f.grows in let l = r.lawful in let same : o.room ≡ room = seen_room w f.ruled ∙ rooms in
    ⊎_elim
    (λ past. inl past)
    (λ all. dite (dec_lt base o.freed) (λ past. inl past) (λ here. (let t = g.freed in let a = freed_taken o l in let b = taken_claimed o l in
    let m = mark_at o r.words p mark l r.shows (omega arith) (up_claimed o l base p (omega arith) (λ i c d. let x = all.0 i c d in omega arith)) (ap (λ (z : ℕ). get_or r.words (mark_word z p) 0) same ∙ sym r.is) leads.1 in
    inr ((λ i c d. dite (dec_lt i p) (λ low. all.0 i c low) (λ high. m.back leads.0 i (omega arith) d)), m.whole_back leads.0 leads.1))))
    (passed_grows (suc zero) v w base p g h)
passed_more (suc (suc n)) room v w base p mark low on started h f rooms leads = absurd (omega arith)

pub starts_grows : (parity : ℕ) (v w : View) (base : ℕ) → Grows v.seen.object w.seen.object → Starts parity v base → Starts parity w base
starts_grows zero v w base g h = let t = g.taken in omega arith
starts_grows (suc parity) v w base g h = let t = g.freed in omega arith

-- WHERE A WALK ENDS

-- at the end of what was found given back nothing more is
pub not_given : (o : BatchState) (words : List ℕ) (base p mark : ℕ) → Lawful o → WordsShow o words → o.freed ≡ base → base ≤ p → ((i : ℕ) → base ≤ i → i < p → 3 ≤ phase_at o i) → IsEdge o.takings p → get_or words (mark_word o.room p) 0 ≡ mark
    → (LeadsOn 1 p mark → mark / 2 ≤ base + o.room → ⊥) → IsGivenBackTo o p
not_given o words base p mark l h free on all edge is short = (
  (λ i below. dite (dec_lt i base) (λ low. l.taken_within i (omega arith)) (λ high. all i (omega arith) below)),
  dite (dec_lt (phase_at o p) 3) (λ low. low) (λ up. (let within = dite (dec_lt p o.taken) (λ y. y) (λ far. (let a = l.after p (omega arith) in absurd (omega arith))) in let total = l.taken_is in
      let t = edge_batch o.takings p edge (omega arith) in let word = h.taking_mark p t.0 t.1 t.2 (omega arith) (omega arith) in let less = t.2 in
      let end : t.0 ≤ o.taken = (let b = edge_within o.takings t.0 (batch_end o.takings p t.0 t.1) in omega arith) in let c = taken_claimed o l in let w = l.within in let e = sym is ∙ word in
      absurd (short (omega arith, omega arith) (omega arith)))),
)

given_at : (most room base p mark : ℕ) (v w : View) → most ≡ base + room → base ≤ p → v.first.room ≡ room → Starts 1 v base → Passed 1 v base p → Found v (mark_word room p) mark w → (LeadsOn 1 p mark → mark / 2 ≤ most → ⊥) → w.seen.object.freed ≤ base → IsGivenBackTo w.seen.object p
given_at most room base p mark v w all on rooms started passed f short free = let o : BatchState = w.seen.object in let r = found_real v w (mark_word room p) mark f in let g = f.grows.freed in
    let same : o.room ≡ room = seen_room w f.ruled ∙ (ap (λ (z : BatchState). z.room) f.made.adds.first ∙ rooms) in
    ⊎_elim (λ past. absurd (let l : base < o.freed = past in omega arith))
    (λ is. not_given o r.words base p mark r.lawful r.shows (omega arith) on is.0 is.1 (ap (λ (z : ℕ). get_or r.words (mark_word z p) 0) same ∙ sym r.is) (λ leads far. short leads (omega arith)))
    (passed_grows 1 v w base p f.grows passed)

-- at the end of what was found published no batch can be taken
pub not_up : (o : BatchState) (words : List ℕ) (p mark most : ℕ) → Lawful o → WordsShow o words → o.taken ≤ p → IsEdge o.batches p → get_or words (mark_word o.room p) 0 ≡ mark → (LeadsOn 0 p mark → mark / 2 ≤ most → ⊥) → NoneFits o p most
not_up o words p mark most l h on edge is short = dite (dec_lt 0 (phase_at o p))
    (λ some. (let up : 1 ≤ phase_at o p = omega arith in let t = edge_batch o.batches p edge (claimed_at o l p up) in let less = t.2 in let e = sym is ∙ h.batch_mark p t.0 t.1 t.2 on up in
    inr (t.0, record { start = p; batch = t.1; from = omega arith; some_item = t.2 }, dite (dec_lt most t.0) (λ y. y) (λ no. absurd (short (omega arith, omega arith) (omega arith))))))
    (λ low. inl (omega arith))

pub up_at : (most room base p mark : ℕ) (v w : View) → base ≤ p → v.first.room ≡ room → Passed 0 v base p → Found v (mark_word room p) mark w → (LeadsOn 0 p mark → mark / 2 ≤ most → ⊥) → w.seen.object.taken ≤ base → NoneFits w.seen.object p most
up_at most room base p mark v w on rooms passed f short at = let o : BatchState = w.seen.object in let r = found_real v w (mark_word room p) mark f in
    let same : o.room ≡ room = seen_room w f.ruled ∙ (ap (λ (z : BatchState). z.room) f.made.adds.first ∙ rooms) in
    ⊎_elim (λ past. absurd (let l : base < o.taken = past in omega arith))
    (λ is. not_up o r.words p mark most r.lawful r.shows (omega arith) is.1 (ap (λ (z : ℕ). get_or r.words (mark_word z p) 0) same ∙ sym r.is) short)
    (passed_grows 0 v w base p f.grows passed)

-- THE STEPS

walked_on : (room p : ℕ) (xs ys : Walk) → walked room p (xs ++ ys) ≡ walked room p xs ++ walked room (end_of p xs) ys
walked_on room p [] ys = refl
walked_on room p (x ∷ xs) ys = ap (λ (z : List (Step BatchState)). load (mark_word room p) x.0 x.1 ∷ z) (walked_on room (x.0 / 2) xs ys)

end_on : (p : ℕ) (xs ys : Walk) → end_of p (xs ++ ys) ≡ end_of (end_of p xs) ys
end_on p [] ys = refl
end_on p (x ∷ xs) ys = end_on (x.0 / 2) xs ys

leads_more : (parity most p mark : ℕ) (m : AbsState BatchState) (xs : Walk) → IsWalk parity most p xs → LeadsOn parity (end_of p xs) mark → mark / 2 ≤ most → IsWalk parity most p (xs ++ (mark, m) ∷ [])
leads_more parity most p mark m [] h on far = (on, far, tt)
leads_more parity most p mark m (x ∷ xs) h on far = (h.0, h.1, leads_more parity most (x.0 / 2) mark m xs h.2 on far)

-- the marks that were followed so far
pub record Follows (parity most room from to : ℕ) (v w : View) : Type 0 where
  pub walk : Walk
  pub leads : IsWalk parity most from walk
  pub end : to ≡ end_of from walk
  pub made : Performed v (walked room from walk) v.own w

pub follows_none : (parity most room from : ℕ) (v : View) → Follows parity most room from from v v
follows_none parity most room from v = record { walk = []; leads = tt; end = refl; made = made_none v }

pub follows_more : (parity most room from at mark : ℕ) (v u w : View) → Follows parity most room from at v u → Found u (mark_word room at) mark w → LeadsOn parity at mark → mark / 2 ≤ most → Follows parity most room from (mark / 2) v w
follows_more parity most room from at mark v u w h f on far = let one : Walk = (mark, w.seen) ∷ [] in record {
  walk = h.walk ++ one;
  leads = leads_more parity most from mark w.seen h.walk h.leads (subst (λ (z : ℕ). LeadsOn parity z mark) h.end on) far;
  end = sym (end_on from h.walk one);
  made = subst (λ (z : List (Step BatchState)). Performed v z v.own w)
      ((λ k. walked room from h.walk ++ load (mark_word room (h.end k)) mark w.seen ∷ []) ∙ sym (walked_on room from h.walk one))
      (made_then v u w (walked room from h.walk) (load (mark_word room at) mark w.seen ∷ []) v.own (λ d. d) h.made f.made);
}

-- the walk went as far as it may
pub followed_all : (parity most room from to : ℕ) (v w : View) → Follows parity most room from to v w → to ≡ most → Followed parity most room from to v w
followed_all parity most room from to v w h far = record {
  loads = walked room from h.walk;
  by = record { walk = h.walk; leads = h.leads; end = h.end; stop = []; stops = at_most far refl; loads_are = sym (append-nil (walked room from h.walk)) };
  made = h.made;
}

-- the last mark that was found does not lead on, or too far
pub followed_stop : (parity most room from to mark : ℕ) (v u w : View) → Follows parity most room from to v u → Found u (mark_word room to) mark w → to < most → (LeadsOn parity to mark → mark / 2 ≤ most → ⊥) → Followed parity most room from to v w
followed_stop parity most room from to mark v u w h f low short = let one : List (Step BatchState) = load (mark_word room to) mark w.seen ∷ [] in record {
  loads = walked room from h.walk ++ one;
  by = record { walk = h.walk; leads = h.leads; end = h.end; stop = one; stops = at_mark low mark w.seen short refl; loads_are = refl };
  made = made_then v u w (walked room from h.walk) one v.own (λ d. d) h.made f.made;
}

-- at the moment of the last mark no place further on was given back
pub stopped_at : (parity most room base from to mark : ℕ) (v u w : View) → parity ≡ 1 → most ≡ base + room → from ≤ to → base ≤ from → u.first.room ≡ room → Grows v.seen.object u.seen.object → Starts parity u base → Passed parity u base to → Follows parity most room from to v u → Found u (mark_word room to) mark w → (LeadsOn parity to mark → mark / 2 ≤ most → ⊥) → StoppedAt base to v w
stopped_at parity most room base from to mark v u w odd all on low rooms g started passed h f short = let e : Step BatchState = load (mark_word room to) mark w.seen in let made = made_then v u w (walked room from h.walk) (e ∷ []) v.own (λ d. d) h.made f.made in record {
  before = walked room from h.walk;
  step = e;
  after = [];
  adds = made.adds;
  holds = (grows_trans v.seen.object u.seen.object w.seen.object g f.grows, grows_refl w.seen.object, given_at most room base to mark u w all (omega arith) rooms (subst (λ (z : ℕ). Starts z u base) odd started) (subst (λ (z : ℕ). Passed z u base to) odd passed) f (subst (λ (z : ℕ). LeadsOn z to mark → mark / 2 ≤ most → ⊥) odd short));
}

-- at the moment of the last mark no batch could be taken from there on
pub stopped_up : (parity most room base from to mark : ℕ) (v u w : View) → parity ≡ 0 → from ≤ to → base ≤ from → u.first.room ≡ room → Grows v.seen.object u.seen.object → Passed parity u base to → Follows parity most room from to v u → Found u (mark_word room to) mark w → (LeadsOn parity to mark → mark / 2 ≤ most → ⊥) → StoppedUp base to most v w
stopped_up parity most room base from to mark v u w even on low rooms g passed h f short = let e : Step BatchState = load (mark_word room to) mark w.seen in let made = made_then v u w (walked room from h.walk) (e ∷ []) v.own (λ d. d) h.made f.made in record {
  before = walked room from h.walk;
  step = e;
  after = [];
  adds = made.adds;
  holds = (
    grows_trans v.seen.object u.seen.object w.seen.object g f.grows,
    grows_refl w.seen.object,
    (found_real u w (mark_word room to) mark f).lawful,
    seen_room w f.ruled,
    λ at. up_at most room base to mark u w (omega arith) rooms (subst (λ (z : ℕ). Passed z u base to) even passed) f (subst (λ (z : ℕ). LeadsOn z to mark → mark / 2 ≤ most → ⊥) even short) at,
  );
}
