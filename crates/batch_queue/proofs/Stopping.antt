-- The end of a taking of some items, by all loads and the parting that led there.
use Rattle.batch_queue.proofs.Common.{BatchState, EndRecord, Found, Grows, HasStop, IsRest, List, POSITIONS, dec_le, dite, ◌⊎◌, Performed, AbsState, Step, View, [], ap, arith, inl, inr, load, mark_word, refl, subst, sym, tail_word, ℕ, ⊎_elim, ◌++◌, ◌+◌, ◌/◌, ◌<◌, ◌∙◌, ◌∷◌, ◌≡◌, ◌≤◌}
use Rattle.table_theory.proofs.Parting.{made_on, made_then}
use Rattle.batch_queue.specs.Parts.{FoundRest, FoundStop, LostStop, LostWithin, Reached, StoppedShort, StoppedWithin, WhyNoStop, after_walk, all, at_tail, no_more, not_parted, one_more, passed, within, with_parts}
use Rattle.std.specs.Prelude.{Result, Ok, Err, IfOk, MatchResult}
use Rattle.table_theory.specs.declared.views.Part.{Part}
use Rattle.batch_queue.proofs.Quiet.{others_after}
use Rattle.batch_queue.specs.declared.refusals.TakeRefusal.{TakeRefusal}
use Rattle.batch_queue.specs.declared.refusals.TakeRefusal.TheVariants.{Lost}
use Rattle.table_theory.proofs.Moments.{moment_after, moment_map, moment_then}
use Rattle.batch_queue.specs.Walks.{Followed, FollowedBy, LeadsOn, Passed, StoppedUp}
use Rattle.batch_queue.proofs.Dividing.{made_none_parted}
use Rattle.batch_queue.proofs.Growing.{grows_refl, grows_trans}
use Rattle.batch_queue.proofs.Stops.{rest_on}
use Rattle.batch_queue.proofs.Walking.{edge_within, found_real, up_at, up_more}
use Rattle.batch_queue.proofs.Whole.{batch_end, one_batch}

-- what was passed up to the first mark
pub first_rest : (v : View) (tail e : ℕ) → FoundRest v tail tail e → Passed 0 v tail e
first_rest v tail e h = ⊎_elim (λ past. inl past) (λ u. inr (u.0, batch_end v.seen.object.batches _ _ u.1.batch)) h

pub passed_stop : (v : View) (tail new : ℕ) → Passed 0 v tail new → HasStop v tail new
passed_stop v tail new h = ⊎_elim (λ past. inl past) (λ all. inr (all.0, inl all.1)) h

pub rest_stop : (v : View) (tail p e : ℕ) → FoundRest v tail p e → HasStop v tail e
rest_stop v tail p e h = ⊎_elim (λ past. inl past) (λ all. inr (all.0, inl (batch_end v.seen.object.batches _ _ all.1.batch))) h

-- a walk from the first mark on is one from the tail on
followed_front : (most room tail first at : ℕ) (loads : List (Step BatchState)) (m : AbsState BatchState) → LeadsOn 0 tail first → first / 2 ≤ tail + most → FollowedBy 0 (tail + most) room (first / 2) at loads → FollowedBy 0 (tail + most) room tail at (load (mark_word room tail) first m ∷ loads)
followed_front most room tail first at loads m on far w = record { walk = (first, m) ∷ w.walk; leads = (on, far, w.leads); end = w.end; stop = w.stop; stops = w.stops; loads_are = ap (λ (z : List (Step BatchState)). load (mark_word room tail) first m ∷ z) w.loads_are }

module _ (room tail most first : ℕ) (on : LeadsOn 0 tail first) where
  module _ (far : first / 2 ≤ tail + most) (v u : View) (at : ℕ) (f : Followed 0 (tail + most) room (first / 2) at v u) where
    front : (m : AbsState BatchState) → FollowedBy 0 (tail + most) room tail at (load (mark_word room tail) first m ∷ f.loads)
    front m = followed_front most room tail first at f.loads m on far f.by

    pub stop_all : at ≡ tail + most → FoundStop room tail most first at v u
    stop_all is = record { loads = f.loads; parts = 0; by = λ m. all (front m) is refl; made = made_none_parted v u f.loads f.made }

    module _ (mark : ℕ) (w : View) (t : Found u (mark_word room at) mark w) (less : at < tail + most) where
      abbrev next : List (Step BatchState)
      next = load (mark_word room at) mark w.seen ∷ []

      pub reached : (m : AbsState BatchState) → Reached room tail most at mark (load (mark_word room tail) first m ∷ (f.loads ++ next))
      reached m = after_walk (load (mark_word room tail) first m ∷ f.loads) (front m) less w.seen refl

      pub both_made : Performed v (f.loads ++ next) v.own w
      both_made = made_on v u w f.loads next v.own v.own f.made (subst (λ (z : EndRecord). Performed u next z w) f.made.did t.made)

      pub stop_none : (LeadsOn 0 at mark → ⊥) → FoundStop room tail most first at v w
      stop_none none = record { loads = f.loads ++ next; parts = 0; by = λ m. no_more mark (reached m) none refl; made = made_none_parted v w (f.loads ++ next) both_made }

      pub stop_more : tail < at → LeadsOn 0 at mark → mark / 2 ≤ tail + most → FoundStop room tail most first (mark / 2) v w
      stop_more after leads fits = record { loads = f.loads ++ next; parts = 0; by = λ m. one_more at mark after (reached m) leads refl fits refl; made = made_none_parted v w (f.loads ++ next) both_made }

  pub reached_first : (m : AbsState BatchState) → Reached room tail most tail first (load (mark_word room tail) first m ∷ [])
  reached_first m = at_tail refl m refl

  module _ (at mark : ℕ) (v u w : View) (pre : List (Step BatchState)) (reach : (m : AbsState BatchState) → Reached room tail most at mark (load (mark_word room tail) first m ∷ pre)) (leads : LeadsOn 0 at mark) (far : tail + most < mark / 2) (made : Performed v pre v.own u) where
    pub stop_within_batch : StoppedWithin room tail (tail + most) (mark / 2) u w → FoundStop room tail most first (tail + most) v w
    stop_within_batch s = let rest : List (Step BatchState) = load tail_word tail s.again ∷ s.after in record {
      loads = pre ++ rest;
      parts = s.parts;
      by = λ m. within at mark (load (mark_word room tail) first m ∷ pre) s.after s.again (reach m) leads far refl s.by refl;
      made = made_on v u w pre rest v.own (with_parts v.own s.parts) made (subst (λ (z : EndRecord). Performed u rest (with_parts z s.parts) w) made.did s.made);
    }

    pub lost_stop : (now : ℕ) → LostWithin room tail (tail + most) now u w → LostStop room tail most first now v w
    lost_stop now (passed past again m) = let rest : List (Step BatchState) = load tail_word now again ∷ [] in record {
      loads = pre ++ rest;
      by = λ n. passed at mark (load (mark_word room tail) first n ∷ pre) again (reach n) leads far past refl;
      made = made_on v u w pre rest v.own v.own made (subst (λ (z : EndRecord). Performed u rest z w) made.did m);
    }
    lost_stop now (not_parted again end after none m) = let rest : List (Step BatchState) = load tail_word tail again ∷ (after ++ load tail_word now end ∷ []) in record {
      loads = pre ++ rest;
      by = λ n. not_parted at mark (load (mark_word room tail) first n ∷ pre) after again end (reach n) leads far none refl;
      made = made_on v u w pre rest v.own v.own made (subst (λ (z : EndRecord). Performed u rest z w) made.did m);
    }

-- WHAT CAME OF IT, AFTER OTHER STEPS

pub why_after : (tail last now : ℕ) (v u w : View) (xs : List (Step BatchState)) {a : EndRecord} → Performed v xs a u → WhyNoStop tail last now u w → WhyNoStop tail last now v w
why_after tail last now v u w xs m h = let share = ap (λ (z : Part). z.share) m.member in ⊎_elim
    (λ s. inl (moment_after v u w xs _ share m.adds s))
    (λ t. inr (moment_after v u w xs _ share m.adds t.0, others_after v u w xs _ share m.adds t.1))
    h

abbrev Stops : ℕ → ℕ → Result ℕ TakeRefusal → View → View → Type 0
Stops tail last r u w = MatchResult r (λ to. (to ≡ last) × HasStop w tail last) (λ e. (now : ℕ) × (e ≡ Lost now) × WhyNoStop tail last now u w)

abbrev Traces : ℕ → ℕ → ℕ → ℕ → Result ℕ TakeRefusal → View → View → Type 0
Traces room tail last end r u w = MatchResult r (λ to. StoppedWithin room tail last end u w) (λ e. (now : ℕ) × (e ≡ Lost now) × LostWithin room tail last now u w)

pub stops_after : (tail most : ℕ) (r : Result ℕ TakeRefusal) (v u w : View) (xs : List (Step BatchState)) {a : EndRecord} → 0 < most → Performed v xs a u → Stops tail (tail + most) r u w
    → MatchResult r (λ to. HasStop w tail to × (tail < to) × (to ≤ tail + most)) (λ e. (now : ℕ) × (e ≡ Lost now) × WhyNoStop tail (tail + most) now v w)
stops_after tail most (Ok to) v u w xs some_item m (is, h) = (subst (HasStop w tail) (sym is) h, omega arith, omega arith)
stops_after tail most (Err e) v u w xs some_item m (now, is, h) = (now, is, why_after tail (tail + most) now v u w xs m h)

pub traces_after : (room tail most first at mark : ℕ) (r : Result ℕ TakeRefusal) (v u w : View) (pre : List (Step BatchState)) → LeadsOn 0 tail first → ((m : AbsState BatchState) → Reached room tail most at mark (load (mark_word room tail) first m ∷ pre)) → LeadsOn 0 at mark → tail + most < mark / 2 → Performed v pre v.own u → Stops tail (tail + most) r u w → Traces room tail (tail + most) (mark / 2) r u w
    → MatchResult r (λ to. FoundStop room tail most first to v w) (λ e. (now : ℕ) × (e ≡ Lost now) × LostStop room tail most first now v w)
traces_after room tail most first at mark (Ok to) v u w pre on reach leads far made (is, h) t = subst (λ (z : ℕ). FoundStop room tail most first z v w) (sym is) (stop_within_batch room tail most first on at mark v u w pre reach leads far made t)
traces_after room tail most first at mark (Err e) v u w pre on reach leads far made s (now, is, t) = (now, is, lost_stop room tail most first on at mark v u w pre reach leads far made now t)

-- what the mark says to which a walk led
pub rest_more : (room most tail from at mark : ℕ) (v u w : View) → v.first.room ≡ room → tail ≤ at → tail ≤ u.seen.object.taken → Passed 0 u tail at → Followed 0 most room from at v u → Found u (mark_word room at) mark w → LeadsOn 0 at mark → FoundRest w tail at (mark / 2)
rest_more room most tail from at mark v u w rooms low started up f t on = ⊎_elim
    (λ past. inl past)
    (λ a. inr (a.0, a.2))
    (up_more room u w tail at mark low started (⊎_elim (λ past. inl past) (λ a. inr a.0) up) t (ap (λ (z : BatchState). z.room) t.made.adds.first ∙ (ap (λ (z : BatchState). z.room) f.made.adds.first ∙ rooms)) on)

-- WHAT WAS NOT PUBLISHED

pub full_after : (tail most : ℕ) (r : Result ℕ TakeRefusal) (v u w : View) → Stops tail (tail + most) r u w → IfOk r (λ to. (to ≡ tail + most) ⊎ StoppedShort tail to v w)
full_after tail most (Ok to) v u w (is, h) = inl is
full_after tail most (Err e) v u w h = tt

-- nothing was published where the walk ended
pub none_short : (room last tail from at mark : ℕ) (v u w : View) → v.first.room ≡ room → tail ≤ at → Passed 0 u tail at → Followed 0 last room from at v u → Grows v.seen.object u.seen.object → Found u (mark_word room at) mark w → (LeadsOn 0 at mark → ⊥) → StoppedShort tail at v w
none_short room last tail from at mark v u w rooms on led f g t none = let e : Step BatchState = load (mark_word room at) mark w.seen in let o : BatchState = w.seen.object in let bounded = (found_real u w (mark_word room at) mark t).shows.bounded in record {
  before = f.loads;
  step = e;
  after = [];
  adds = (made_then v u w f.loads (e ∷ []) v.own (λ d. d) f.made t.made).adds;
  holds = (
    grows_trans v.seen.object u.seen.object o g t.grows,
    grows_refl o,
    λ low. (
      at,
      omega arith,
      ⊎_elim (λ y. y) (λ y. (let far = y.2 in let below = edge_within o.batches y.0 (batch_end o.batches _ _ y.1.batch) in absurd (omega arith)))
          (up_at POSITIONS room tail at mark u w on (ap (λ (z : BatchState). z.room) f.made.adds.first ∙ rooms) led t (λ leads far. none leads) low),
    ),
  );
}

-- the rests of batches from one position on have one end
same_end : (bs : List (List ℕ)) (p a b : ℕ) → IsRest bs p a → IsRest bs p b → a ≡ b
same_end bs p a b x y = let x0 = x.from in let x1 = x.some_item in let y0 = y.from in let y1 = y.some_item in dite (dec_le y.start x.start)
    (λ le. (one_batch bs x.start a y.start b x.batch y.batch (omega arith) le (omega arith)).1)
    (λ gt. sym (one_batch bs y.start b x.start a y.batch x.batch (omega arith) (omega arith) (omega arith)).1)

-- a batch that fits was published after the walk ended
pub more_short : (room last tail from at mark : ℕ) (v u w : View) → v.first.room ≡ room → tail ≤ at → tail ≤ u.seen.object.taken → Passed 0 u tail at → Followed 0 last room from at v u → StoppedUp tail at last v u → Found u (mark_word room at) mark w → LeadsOn 0 at mark → mark / 2 ≤ last → StoppedShort tail (mark / 2) v w
more_short room last tail from at mark v u w rooms on started led f s t leads fits = moment_then v u w (load (mark_word room at) mark w.seen ∷ []) _ (ap (λ (z : Part). z.share) f.made.member)
    (moment_map v u _ _ (λ o h. (let g = grows_trans o u.seen.object w.seen.object h.1 t.grows in let after = leads.1 in (
      h.0,
      g,
      λ low. ⊎_elim
          (λ none. (at, omega arith, none))
          (λ y. absurd (⊎_elim
          (λ past. (let l : tail < w.seen.object.taken = past in omega arith))
          (λ a. (let same = same_end w.seen.object.batches at y.0 (mark / 2) (rest_on o.batches w.seen.object.batches g.more.0 at y.0 g.more.1 y.1) a.1 in let far = y.2 in omega arith))
          (rest_more room last tail from at mark v u w rooms on started led f t leads)))
          (h.4 (let l = g.taken in omega arith)),
    ))) s)
    t.made.adds
