-- The steps of a taking, taken together.
use Rattle.batch_queue.proofs.Common.{HasFound, IsStop, IsRest, inl, ⊎_elim, phase_at, ◌⊎◌, BatchState, EndRecord, Found, Grows, IsEdge, List, Performed, Me, Step, Took, View, [], ap, append_assoc, arith, change, dec_lt, dite, concat, concat-append, drop, inr, items_of, length, length-append, load, mark_word, refl, slots_of, subst, sym, tail_word, take, with_taken, with_taking, ℕ, ◌++◌, ◌+◌, ◌-◌, ◌/◌, ◌<◌, ◌∙◌, ◌∷◌, ◌≡◌, ◌≢◌, ◌≤◌}
use Rattle.std.proofs.Math.Seq.{drop-append_seam, take-append_seam}
use Rattle.std.specs.Prelude.{min}
use Rattle.std.proofs.lemmas.List.{length-drop, length-take-le}
use Rattle.table_theory.proofs.Moments.{moment_now, two_after, two_of}
use Rattle.table_theory.proofs.Parting.{made_then}
use Rattle.table_theory.specs.declared.views.Part.{Part}
use Rattle.batch_queue.specs.Moments.{AtTwoMoments}
use Rattle.batch_queue.specs.Object.{NoneFits}
use Rattle.batch_queue.specs.Client.{WhyNotTaken}
use Rattle.batch_queue.specs.Takings.{AreBatches, AreFirst, HasTaken, RefusedTake}
use Rattle.batch_queue.specs.Walks.{Followed, FollowedBy, LeadsOn, Passed, StoppedUp}
use Rattle.batch_queue.specs.declared.refusals.TakeRefusal.TheVariants.{Lost}
use Rattle.batch_queue.proofs.Looking.{found_tail}
use Rattle.batch_queue.proofs.Stepping.{step_real}
use Rattle.batch_queue.proofs.Walking.{edge_within, up_more}
use Rattle.batch_queue.proofs.Whole.{batch_end, edge_on}

-- THE WALK FROM THE TAIL

-- what the mark of the tail says
pub first_up : (room : ℕ) (v u b : View) (tail mark : ℕ) → v.first.room ≡ room → Found v tail_word tail u → Found u (mark_word room tail) mark b → LeadsOn 0 tail mark
    → (tail < b.seen.object.taken) ⊎ (((i : ℕ) → tail ≤ i → i < mark / 2 → 1 ≤ phase_at b.seen.object i) × IsStop b.seen.object tail × IsRest b.seen.object.batches tail (mark / 2))
first_up room v u b tail mark rooms x y on = up_more room u b tail tail mark (omega arith) (let is = (found_tail v u tail x).0 in omega arith) (inr (λ i a c. absurd (omega arith))) y (ap (λ (z : BatchState). z.room) y.made.adds.first ∙ (ap (λ (z : BatchState). z.room) x.made.adds.first ∙ rooms)) on

-- the first mark was passed
pub first_passed : (room : ℕ) (v u b : View) (tail mark : ℕ) → v.first.room ≡ room → Found v tail_word tail u → Found u (mark_word room tail) mark b → LeadsOn 0 tail mark → Passed 0 b tail (mark / 2)
first_passed room v u b tail mark rooms x y on = ⊎_elim (λ past. inl past) (λ t. inr (t.0, batch_end b.seen.object.batches _ _ t.2.batch)) (first_up room v u b tail mark rooms x y on)

pub followed_first : (least most room tail mark new : ℕ) (u b c : View) → least ≡ most → Found u (mark_word room tail) mark b → LeadsOn 0 tail mark → mark / 2 ≤ tail + least → Followed 0 (tail + least) room (mark / 2) new b c → Followed 0 (tail + most) room tail new u c
followed_first least most room tail mark new u b c is y on far f = let first : Step BatchState = load (mark_word room tail) mark b.seen in let w = f.by in
    subst (λ (z : ℕ). Followed 0 (tail + z) room tail new u c) is record {
      loads = first ∷ f.loads;
      by = record { walk = (mark, b.seen) ∷ w.walk; leads = (on, far, w.leads); end = w.end; stop = w.stop; stops = w.stops; loads_are = ap (λ (z : List (Step BatchState)). first ∷ z) w.loads_are };
      made = made_then u b c (first ∷ []) f.loads u.own (λ d. d) y.made f.made;
    }

-- BATCHES

abbrev Lists : Type 0
Lists = List (List ℕ)

abbrev first_or : Lists → List ℕ
first_or [] = []
first_or (z ∷ zs) = z

abbrev rest_or : Lists → Lists
rest_or [] = []
rest_or (z ∷ zs) = zs

-- what lies between two edges
between : (xs rest ys more : Lists) → xs ++ rest ≡ ys ++ more → length (concat xs) < length (concat ys) → (mid : Lists) × (ys ≡ xs ++ mid)
between [] rest ys more e less = (ys, refl)
between (x ∷ xs) rest [] more e less = absurd (omega arith)
between (x ∷ xs) rest (y ∷ ys) more e less = let first : x ≡ y = ap (λ (l : Lists). first_or l) e in let others : xs ++ rest ≡ ys ++ more = ap (λ (l : Lists). rest_or l) e in
    let n = length-append x (concat xs) in let m = length-append y (concat ys) in let k = ap length first in let t = between xs rest ys more others (omega arith) in (t.0, λ i. sym first i ∷ t.1 i)

-- the batches between two edges, and their items
are_batches : (o : BatchState) (tail new : ℕ) → o.taken ≡ tail → tail < new → IsEdge o.batches tail → IsEdge o.batches new → AreBatches o (take (new - tail) (drop tail (items_of o)))
are_batches o tail new at less e f = let e0 = e.at in let f0 = f.at in let t = between e.before e.rest f.before f.rest (e.all ∙ sym f.all) (omega arith) in let mid = t.0 in
    let all : e.before ++ (mid ++ f.rest) ≡ o.batches = sym (append_assoc e.before mid f.rest) ∙ (ap (λ (z : Lists). z ++ f.rest) (sym t.1) ∙ f.all) in
    let items : items_of o ≡ concat e.before ++ (concat mid ++ concat f.rest) = ap concat (sym all) ∙ (concat-append e.before (mid ++ f.rest) ∙ ap (λ (z : List ℕ). concat e.before ++ z) (concat-append mid f.rest)) in
    let long : length (concat mid) ≡ new - tail = (let n = ap length (ap concat t.1 ∙ concat-append e.before mid) in let m = length-append (concat e.before) (concat mid) in omega arith) in
    let left : drop tail (items_of o) ≡ concat mid ++ concat f.rest = (λ i. drop (sym e0 i) (items i)) ∙ drop-append_seam (concat e.before) (concat mid ++ concat f.rest) in record {
      before = e.before;
      batches = mid;
      after = f.rest;
      all = all;
      from = e0 ∙ sym at;
      items_are = sym ((λ i. take (sym long i) (left i)) ∙ take-append_seam (concat mid) (concat f.rest));
    }

-- the items from the tail to the new one, where a batch ends
pub are_first : (o : BatchState) (tail new : ℕ) (items : List ℕ) → o.taken ≡ tail → tail < new → items ≡ take (new - tail) (drop tail (items_of o)) → tail + length items ≡ new → IsEdge o.batches new → AreFirst o items
are_first o tail new items at less is end f = record {
  items_are = (λ i. take ((let n : length items ≡ new - tail = omega arith in n) i) (drop (at i) (items_of o))) ∙ sym is;
  end = subst (IsEdge o.batches) (let n : new ≡ o.taken + length items = omega arith in n) f;
  whole = λ e. subst (AreBatches o) (sym is) (are_batches o tail new at less (subst (IsEdge o.batches) at e) f);
}

module _ (room most : ℕ) (v u c : View) (tail new : ℕ) (rooms : v.first.room ≡ room) (x : Found v tail_word tail u) (f : Followed 0 (tail + min most room) room tail new u c) (g : Grows u.seen.object c.seen.object) (less : tail < new) (far : new ≤ tail + min most room) (found : HasFound c tail new) where
  abbrev first : Step BatchState
  first = load tail_word tail u.seen

  made : Performed v (first ∷ f.loads) v.own c
  made = made_then v u c (first ∷ []) f.loads v.own (λ d. d) x.made f.made

  -- another tail was found
  lost : (now : ℕ) (w : View) → Found c tail_word now w → Performed v (first ∷ (f.loads ++ load tail_word now w.seen ∷ [])) v.own w
  lost now w t = made_then v c w (first ∷ f.loads) (load tail_word now w.seen ∷ []) v.own (λ d. d) made t.made

  past : (now : ℕ) (w : View) → now ≢ tail → Found c tail_word now w → tail < now
  past now w ne t = let is = (found_tail v u tail x).0 in let is' = (found_tail c w now t).0 in let g0 = g.taken in let g1 = t.grows.taken in omega arith

  pub lost_error : (now : ℕ) (w : View) → now ≢ tail → Found c tail_word now w → WhyNotTaken v most (Lost now) w
  lost_error now w ne t = let p = past now w ne t in let is = (found_tail v u tail x).0 in let is' = (found_tail c w now t).0 in record { before = []; first = first; between = f.loads; second = load tail_word now w.seen; after = []; adds = (lost now w t).adds; holds = (omega arith, sym is') }

  pub lost_refused : (now : ℕ) (w : View) → now ≢ tail → Found c tail_word now w → RefusedTake room v most (Lost now) w
  lost_refused now w ne t = inr (inr record { tail = tail; new = new; some_item = less; at_tail = u.seen; loads = f.loads; followed = f.by; past = past now w ne t; at_exchange = w.seen; added = lost now w t })

  -- a batch ends where the taking ends
  new_edge : (m : Me ℕ View) (t : Took c tail new m) → IsEdge t.at.object.batches new
  new_edge m t = let g' = t.step.grows in let taken = g'.taken in let is = t.tail_is in ⊎_elim (λ past. absurd (let l : tail < c.seen.object.taken = past in omega arith)) (λ all. edge_on c.seen.object.batches t.at.object.batches g'.more.0 new g'.more.1 all.1) found

  pub has_taken : (m : Me ℕ View) → Took c tail new m → (items : List ℕ) × (length items ≡ new - tail) × HasTaken room most v tail items m
  has_taken m t = let o : BatchState = t.at.object in let items : List ℕ = take (new - tail) (drop tail (items_of o)) in let edge = new_edge m t in let within = edge_within o.batches new edge in
      let long : length items ≡ new - tail = (let d = length-drop tail (items_of o) in length-take-le (new - tail) (drop tail (items_of o)) (omega arith)) in let end : new ≡ tail + length items = omega arith in
      let e : Step BatchState = change tail_word tail t.at (with_taken o new) in let bounded = (step_real c m.0 e (with_taking c.own o (new - tail)) t.step).shows.bounded in let own = t.step.made.did in
      let all : Performed v (first ∷ (f.loads ++ e ∷ [])) (with_taking v.own o (new - tail)) m.0 = made_then v c m.0 (first ∷ f.loads) (e ∷ []) v.own (λ d. with_taking d o (new - tail)) made t.step.made in (
        items,
        long,
        record {
          taken = record {
            some_item = omega arith;
            within = omega arith;
            at_tail = u.seen;
            loads = f.loads;
            followed = subst (λ (z : ℕ). FollowedBy 0 (tail + min most room) room tail z f.loads) end f.by;
            at_taking = t.at;
            first = are_first o tail new items t.tail_is less refl (sym end) edge;
            added = subst (λ (z : ℕ). Performed v (first ∷ (f.loads ++ change tail_word tail t.at (with_taken o z) ∷ [])) (with_taking v.own o (length items)) m.0) end
                (subst (λ (z : ℕ). Performed v (first ∷ (f.loads ++ e ∷ [])) (with_taking v.own o z) m.0) (sym long) all);
          };
          start = t.tail_is;
          range = record { in_phase = ap (λ (z : EndRecord). z.held.phase) own; start_is = ap (λ (z : EndRecord). z.held.start) own ∙ t.tail_is; count_is = ap (λ (z : EndRecord). z.held.count) own ∙ sym long; some_slot = omega arith; bounded = omega arith };
          slots = t.slots ∙ ap (λ (z : ℕ). slots_of z tail items) (ap (λ (z : BatchState). z.room) made.adds.first ∙ rooms);
        },
      )

-- WHAT COULD NOT BE TAKEN

-- at a moment at which the tail was already that of the taking, no batch more fitted
pub took_most : (room most : ℕ) (v u b c : View) (tail mark new least n : ℕ) (m : Me ℕ View) → Found v tail_word tail u → Found u (mark_word room tail) mark b → least ≡ min most room → c.member.share ≡ b.member.share → c.own ≡ v.own → Took c tail new m → tail < new → new ≤ tail + least → (new < tail + least → StoppedUp tail new (tail + least) b c) → n ≡ new - tail
    → (n ≡ min most room) ⊎ AtTwoMoments v m.0 (λ o later. (o.taken ≡ later.taken) × NoneFits o (later.taken + n) (later.taken + min most room) × (m.0.own ≡ with_taking v.own later n))
took_most room most v u b c tail mark new least n m x y is share same t less far up long =
    let before : List (Step BatchState) = load tail_word tail u.seen ∷ load (mark_word room tail) mark b.seen ∷ [] in
    let made : Performed v before v.own b = made_then v u b (load tail_word tail u.seen ∷ []) (load (mark_word room tail) mark b.seen ∷ []) v.own (λ d. d) x.made y.made in
    let e : Step BatchState = change tail_word tail t.at (with_taken t.at.object new) in
    let Q : BatchState → Type 0 = (λ later. (later.taken ≡ tail) × Grows c.seen.object later × (m.0.own ≡ with_taking v.own later n)) in
    let own : m.0.own ≡ with_taking v.own t.at.object n = t.step.made.did ∙ ((λ i. with_taking (same i) t.at.object (new - tail)) ∙ ap (with_taking v.own t.at.object) (sym long)) in
    dite (dec_lt new (tail + least))
    (λ short. inr (two_after v b m.0 before _ (ap (λ (z : Part). z.share) made.member) made.adds
    (two_of b c m.0 _ Q (λ o later. (o.taken ≡ later.taken) × NoneFits o (later.taken + n) (later.taken + min most room) × (m.0.own ≡ with_taking v.own later n)) share
    (λ o later p k. (let was = (found_tail v u tail x).0 in let g0 = y.grows.taken in let g1 = p.0.taken in let g2 = p.1.taken in let g3 = k.1.taken in let at = k.0 in (
      omega arith,
      subst (λ (z : ℕ). NoneFits o z (later.taken + min most room)) (let a : new ≡ later.taken + n = omega arith in a) (subst (λ (z : ℕ). NoneFits o new z) (let a : tail + least ≡ later.taken + min most room = omega arith in a) (p.4 (omega arith))),
      k.2,
    )))
    (up short) (moment_now c m.0 e (with_taking c.own t.at.object (new - tail)) Q t.step.made (t.tail_is, t.step.grows, own)))))
    (λ full. inl (omega arith))
