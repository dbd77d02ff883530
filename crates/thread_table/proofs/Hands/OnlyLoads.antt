-- The steps that are no event keep the rule.
use Rattle.thread_table.proofs.Common.{◌≡◌, ◌≢◌, ◌+◌, ℕ, zero, suc, ◌≤◌, Bool, true, false, List, [], ◌∷◌, ◌++◌, map, length, get_or, set, Some, None, Option, option_map, sym, refl, ap, ◌∙◌, subst, ⊎_elim, arith, length-set, set-get_or, map-set, some, none, some-injective, get_elem?, Me, keeps, Allows, at_set, at_map, set_here, AreMade, made_of, Part, Begins, StepEffect, stays, event, IsValidStep, EndsStand, load, AreOrdered, IsWhole, order_to, order_at, order_step, stand_same, at_below, begins_refl, two_of, Elements, hold, Event, Shape, HandState, View, Counted, Past, Course, Grows, WordsShow, AreJoined, HasStood, IsActive, IsSteady, IsNewest, done_at, HandIs, IsCounted, Seen, Rule, newcomer, nothing_of, now_of, serves, Sees, Found, HandStands, had_by_both, steps_in, steps_by, quiet, of_hands, IsValidHandView}
use Rattle.atomic_table.specs.Table.{State, step}
use Rattle.table_theory.specs.Ledgers as ends
use Rattle.table_theory.specs.Ledgers.{Step}
use Rattle.table_theory.proofs.Orders.{after, order_true, step_order, newest_seen}
use Rattle.thread_table.specs.Schedules.{elements_after, IsAllowed}
use Rattle.thread_table.proofs.Schedule.JoinEvents.{joined_set, none_uncounted}
use Rattle.thread_table.specs.Steps.{Stepped, finds}
use Rattle.thread_table.proofs.Schedule.Acting.{stepped, acts_step}
use Rattle.thread_table.proofs.Events.Effects.{Ready}
use Rattle.thread_table.proofs.Events.Owing.{claims_kept}
use Rattle.thread_table.proofs.Schedule.Schedules.{after_none, lawful_after, grows_refl, allowed_before}
use Rattle.thread_table.proofs.Schedule.Once.{done_grows}

abbrev pub St : Type 0
St = State Unit View

-- all steps of all hands, and their joins, up to now
abbrev pub steps_to : {key : Shape} {s : St} → Rule key s → Course
steps_to k = order_to k.order

-- the schedule and the number of hands now
abbrev pub now_at : {key : Shape} {s : St} → Rule key s → Past
now_at {key} {s} k = now_of k.events s.words

-- the view after a step that found this number in this word, and left all as it was
abbrev pub looked : View → ℕ → ℕ → Course → Past → View
looked v word found past m = stepped v (quiet v) past (load word found m)

-- a hand that has the same, and counts what its call may count
pub hand_counts : (call : ℕ) (v w : View) (e : Elements) → w.own.held ≡ v.own.held → w.own.serves ≡ v.own.serves → w.own.on ≡ v.own.on → w.own.claimed ≡ v.own.claimed
    → ((c : Counted) → w.own.counted ≡ Some c → IsCounted call c e) → HandIs call v e → HandIs call w e
hand_counts call v w e held serving on claimed counted h = record {
  held_long = ap (λ (z : List Bool). length z) held ∙ h.held_long;
  serves_long = ap (λ (z : List Bool). length z) serving ∙ h.serves_long;
  on_long = ap (λ (z : List (Option ℕ)). length z) on ∙ h.on_long;
  held = λ x. h.held x ∙ ap (λ (z : List Bool). get_or z x false) (sym held);
  on = λ p up. h.on p (ap (λ (z : List Bool). get_or z p false) (sym serving) ∙ up) ∙ ap (λ (z : List (Option ℕ)). Some (option_map (hold call) (get_or z p None))) (sym on);
  off = λ p low. ap (λ (z : List (Option ℕ)). get_or z p None) on ∙ h.off p (ap (λ (z : List Bool). get_or z p false) (sym serving) ∙ low);
  claimed = λ c is. h.claimed c (sym claimed ∙ is);
  counted = counted;
}

no_count : (c : Counted) → ◌≡◌ {A = Option Counted} None (Some c) → ⊥
no_count c is = cc

pub hand_quiet : (call : ℕ) (v w : View) (e : Elements) → w.own.held ≡ v.own.held → w.own.serves ≡ v.own.serves → w.own.on ≡ v.own.on → w.own.claimed ≡ v.own.claimed → w.own.counted ≡ None → HandIs call v e → HandIs call w e
hand_quiet call v w e held serving on claimed nil h = hand_counts call v w e held serving on claimed (λ c is. absurd (no_count c (sym nil ∙ is))) h

-- a hand that has seen all events
pub seen_all : (w : View) (events : List Event) → w.seen.object ≡ events → Seen w events
seen_all w events schedule = record {
  schedule = subst (λ (z : List Event). Begins z events) (sym schedule) (begins_refl events);
  grows = subst (λ (z : List Event). Grows (elements_after z) (elements_after events)) (sym schedule) (grows_refl (elements_after events));
}

-- beside a hand that exists no other has the whole
pub no_other : (first n : ℕ) (views : List View) (id j : ℕ) (v u : View) → EndsStand (nothing_of first) n views → get_elem? views id ≡ some v → 1 ≤ v.member.ends → get_elem? views j ≡ some u → j ≢ id → IsWhole u.member.share → ⊥
no_other first n views id j v u k at live has ne whole = let t = two_of (λ (z : View). z.member.share) views j id u v has at ne in let s = k.counted.shared in let w = k.counted.within id v at in omega arith

-- a property holds of each view after one is replaced, if it holds of the new one and of each other view
pub each_set : (Q : ℕ → View → Type 0) (views : List View) (id : ℕ) (w : View) → ((j : ℕ) (u : View) → j ≢ id → get_elem? views j ≡ some u → Q j u) → Q id w
    → (j : ℕ) (u : View) → get_elem? (set views id w) j ≡ some u → Q j u
each_set Q views id w old mine j u has = ⊎_elim (λ e. subst (λ (z : ℕ). Q z u) (sym e.0) (subst (Q id) e.1 mine)) (λ e. old j u e.0 e.1) (at_set views id j w u has)

-- the view that was there served the same
was : (views : List View) (id : ℕ) (v w : View) → get_elem? views id ≡ some v → w.own.serves ≡ v.own.serves → (j : ℕ) (u : View) → get_elem? (set views id w) j ≡ some u
    → (o : View) × (get_elem? views j ≡ some o) × (o.own.serves ≡ u.own.serves)
was views id v w at same = each_set (λ j u. (o : View) × (get_elem? views j ≡ some o) × (o.own.serves ≡ u.own.serves)) views id w (λ j u ne has. (u, has, refl)) (v, at, sym same)

-- no processor is served by two
abbrev pub AreSole : List View → Type 0
AreSole views = (i j p : ℕ) (u v : View) → get_elem? views i ≡ some u → get_elem? views j ≡ some v → serves u p ≡ true → serves v p ≡ true → i ≡ j

pub sole_set : (views : List View) (id : ℕ) (v w : View) → get_elem? views id ≡ some v → w.own.serves ≡ v.own.serves → AreSole views → AreSole (set views id w)
sole_set views id v w at same sole i j p u u' has has' up up' = let a = was views id v w at same i u has in let b = was views id v w at same j u' has' in
    sole i j p a.0 b.0 a.1 b.1 (ap (λ (z : List Bool). get_or z p false) a.2 ∙ up) (ap (λ (z : List Bool). get_or z p false) b.2 ∙ up')

pub set_again : {A : Type 0} (xs : List A) (i : ℕ) (x : A) → get_elem? xs i ≡ some x → set xs i x ≡ xs
set_again [] i x at = refl
set_again (y ∷ ys) zero x at = ap (λ z. z ∷ ys) (sym (some-injective y x at))
set_again (y ∷ ys) (suc i) x at = ap (λ zs. y ∷ zs) (set_again ys i x at)

-- the hand made nothing more
made_same : (past : List Event) (views : List View) (id : ℕ) (v w : View) → get_elem? views id ≡ some v → w.own.made ≡ v.own.made → AreMade past (map made_of views) → AreMade past (map made_of (set views id w))
made_same past views id v w at same m = subst (AreMade past)
    (sym (map-set made_of views id w ∙ (ap (set (map made_of views) id) same ∙ set_again (map made_of views) id v.own.made (at_map made_of views id v at)))) m

-- a step that found this number in its word, and did this, is real
pub real_step : (key : Shape) (s : St) (k : Rule key s) (i found : ℕ) (next : Past) → found ≡ get_or s.words i 0 → StepEffect (of_hands key.first) (now_at k) next → IsValidStep (of_hands key.first) record { word = i; found = found; then = now_at k; next = next }
real_step key s k i found next is effect = record { lawful = k.allowed; words = s.words; shows = k.shows; ends = refl; is = is; effect = effect }

-- so is a step that made an event
pub real_event : (key : Shape) (s : St) (k : Rule key s) (i found : ℕ) (more : Event) → found ≡ get_or s.words i 0 → IsAllowed (k.events ++ more ∷ []) → Grows (elements_after k.events) (elements_after (k.events ++ more ∷ []))
    → IsValidStep (of_hands key.first) record { word = i; found = found; then = now_at k; next = record (now_at k) { object = k.events ++ more ∷ [] } }
real_event key s k i found more is allowed grows = real_step key s k i found (record (now_at k) { object = k.events ++ more ∷ [] }) is (event (k.events ++ more ∷ []) (more, refl, allowed, grows) refl)

-- by the rule, a hand's list is true
pub valid_of : (key : Shape) (s : St) (k : Rule key s) (id : ℕ) (v : View) → get_elem? s.views id ≡ some v → IsValidHandView v
valid_of key s k id v at = record {
  list = subst (λ (z : ℕ). ends.IsValidView (of_hands z) v) (sym (k.first id v at)) (order_true (of_hands key.first) [] (now_at k) (k.joiner ∷ s.views) (suc id) v k.order at);
  first = k.order.first_is (suc id) v at;
  allowed = allowed_before v.seen.object k.events (k.seen id v at).schedule k.allowed;
  undoubled = k.undoubled id v at;
}

-- the order after a step of a hand that has this then, and those who have the whole have seen all of it
pub order_goes : (key : Shape) (s : St) (k : Rule key s) (id : ℕ) (v w : View) (own : HandState) (member : Part) (e : Step (List Event)) (now : Past) → get_elem? s.views id ≡ some v → 1 ≤ v.member.ends → w ≡ after v own member (steps_to k) e → e.then ≡ now_at k → IsValidStep (of_hands key.first) e → e.next ≡ now
    → (order : AreOrdered (of_hands key.first) [] now (k.joiner ∷ set s.views id w)) × ((j : ℕ) (u : View) → get_elem? (set s.views id w) j ≡ some u → IsNewest u (order_to order))
order_goes key s k id v w own member e now at live is found real leaves =
    let x : View = after v own member (steps_to k) e in let vs : List View = k.joiner ∷ s.views in
    let t : AreOrdered (of_hands key.first) [] e.next (k.joiner ∷ set s.views id x) = order_step (of_hands key.first) [] (now_at k) vs (suc id) v own member e k.order at found real in
    let all : order_to t ≡ steps_to k ++ e ∷ [] = step_order (of_hands key.first) [] (now_at k) vs (suc id) v own member e k.order at found real in
    let same = order_at (of_hands key.first) [] (k.joiner ∷ set s.views id x) e.next now leaves t in
    let to : order_to same.0 ≡ x.course = same.1 ∙ all in
    subst (λ (z : View). (order : AreOrdered (of_hands key.first) [] now (k.joiner ∷ set s.views id z)) × ((j : ℕ) (u : View) → get_elem? (set s.views id z) j ≡ some u → IsNewest u (order_to order))) (sym is)
    (same.0, each_set (λ j u. IsNewest u (order_to same.0)) s.views id x (λ j u ne has whole up. absurd (no_other key.first (get_or s.words 0 0) s.views id j v u k.ends at live has ne whole)) (λ whole up. to))

-- the first hand of a table lists nothing
pub valid_first : (key : Shape) → IsValidHandView (newcomer key)
valid_first key = record { list = record { leads = refl; real = tt; own = tt }; first = refl; allowed = after_none.1; undoubled = refl }

-- the rule, where no event came, and a view has seen all
pub kept : (key : Shape) (s : St) (k : Rule key s) (id : ℕ) (ws : List ℕ) (v w : View) (own : HandState) (member : Part) (e : Step (List Event)) → w ≡ after v own member (steps_to k) e → e.then ≡ now_at k → IsValidStep (of_hands key.first) e → e.next ≡ now_of k.events ws
    → get_elem? s.views id ≡ some v → 1 ≤ v.member.ends → WordsShow key.first (elements_after k.events) ws
    → w.own.first ≡ v.own.first → w.seen.object ≡ k.events → w.own.serves ≡ v.own.serves → w.own.claimed ≡ v.own.claimed → (w.own.made ≡ v.own.made) × (w.own.doubled ≡ v.own.doubled) → HandIs id w (elements_after k.events)
    → EndsStand (nothing_of key.first) (get_or ws 0 0) (set s.views id w) → AreJoined k.events (set s.views id w) → Rule key record { words = ws; homes = s.homes; views = set s.views id w }
kept key s k id ws v w own member e is found real leaves at live shows first schedule serving claimed did hand stand joins = let o = order_goes key s k id v w own member e (now_of k.events ws) at live is found real leaves in record {
  events = k.events;
  allowed = k.allowed;
  shows = shows;
  first = each_set (λ j u. u.own.first ≡ key.first) s.views id w (λ j u ne has. k.first j u has) (first ∙ k.first id v at);
  seen = each_set (λ j u. Seen u k.events) s.views id w (λ j u ne has. k.seen j u has) (seen_all w k.events schedule);
  hands = each_set (λ j u. HandIs j u (elements_after k.events)) s.views id w (λ j u ne has. k.hands j u has) hand;
  sole = sole_set s.views id v w at serving k.sole;
  owned = claims_kept s.views id v w (elements_after k.events) at claimed k.owned;
  strange = λ call element past. k.strange call element (let l = length-set s.views id w in omega arith);
  made = made_same k.events s.views id v w at did.0 k.made;
  steady = each_set (λ j u. IsSteady u k.events) s.views id w (λ j u ne has. k.steady j u has) (λ up x low may. ap (λ (z : List Event). done_at z x) (sym schedule));
  undoubled = each_set (λ j u. u.own.doubled ≡ false) s.views id w (λ j u ne has. k.undoubled j u has) (did.1 ∙ k.undoubled id v at);
  ends = stand;
  joined = joins;
  joiner = k.joiner;
  are_joins = k.are_joins;
  order = o.0;
  newest = o.1;
}

-- the rule, where the words stay, and a view has one entry more and sees the schedule as it is
pub kept_look : (key : Shape) (s : St) (k : Rule key s) (i id found : ℕ) (v : View) → found ≡ get_or s.words i 0 → get_elem? s.views id ≡ some v → IsActive v
    → Rule key record { words = set s.words i (get_or s.words i 0); homes = s.homes; views = set s.views id (looked v i found (steps_to k) (now_at k)) }
kept_look key s k i id found v is at live = let w : View = looked v i found (steps_to k) (now_at k) in subst (λ (z : List ℕ). Rule key record { words = z; homes = s.homes; views = set s.views id w }) (sym (set-get_or s.words i 0))
    (kept key s k id s.words v w w.own v.member (load i found (now_at k)) refl refl (real_step key s k i found (now_at k) is (stays refl)) refl at live.0 k.shows refl refl refl refl (refl, refl)
    (hand_quiet id v w (elements_after k.events) refl refl refl refl refl (k.hands id v at))
    (stand_same (nothing_of key.first) had_by_both (get_or s.words 0 0) s.views id v w k.ends at live.0 refl)
    (joined_set k.events s.views id v w at live.0 live.0 (let n = none_uncounted v live.1 in omega arith) k.joined))

-- a hand that has the whole has seen the schedule as it is
pub newest_schedule : (key : Shape) (s : St) (k : Rule key s) (id : ℕ) (v : View) → get_elem? s.views id ≡ some v → IsWhole v.member.share → v.own.fresh ≡ true → v.seen.object ≡ k.events
newest_schedule key s k id v at whole up = ap (λ (z : Past). z.object) (sym (newest_seen (of_hands key.first) [] (now_at k) (k.joiner ∷ s.views) (suc id) v k.order at (k.newest id v at whole up)))

-- what a hand sees at one of its steps, by the rule
unfoldable pub sees_of : (key : Shape) (s : St) (k : Rule key s) (id : ℕ) (v : View) → get_elem? s.views id ≡ some v → Sees v k.events
sees_of key s k id v at = record {
  allowed = k.allowed;
  lawful = lawful_after k.events k.allowed;
  seen = k.seen id v at;
  done = done_grows v.seen.object k.events (k.seen id v at).schedule k.allowed;
  steady = k.steady id v at;
  newest = newest_schedule key s k id v at;
  undoubled = k.undoubled id v at;
  words = s.words;
  shows = subst (λ (z : ℕ). WordsShow z (elements_after k.events) s.words) (sym (k.first id v at)) k.shows;
}

pub sees_words : (key : Shape) (s : St) (k : Rule key s) (id : ℕ) (v : View) (at : get_elem? s.views id ≡ some v) → (sees_of key s k id v at).words ≡ s.words
unfolding sees_of
sees_words key s k id v at = refl

pub ready_of : (key : Shape) (s : St) (k : Rule key s) (id : ℕ) (v : View) → get_elem? s.views id ≡ some v → Ready id v key.first (elements_after k.events) s.words
ready_of key s k id v at = record { lawful = lawful_after k.events k.allowed; hand = k.hands id v at; shows = k.shows; grown = (k.seen id v at).grows }

-- the result of a step that was made when the rule held, if the rule holds afterwards
pub stepped_now : (key : Shape) (s t : St) (k : Rule key s) (j : Rule key t) (id : ℕ) (v now : View) (word found : ℕ) (next : Past) → get_elem? s.views id ≡ some v → v.own.fresh ≡ true → let e : Step (List Event) = record { word = word; found = found; then = now_at k; next = next } in
    get_elem? t.views id ≡ some (stepped v now (steps_to k) e) → found ≡ get_or s.words word 0 → Begins k.events next.object → ((x : ℕ) → steps_in x next.object + steps_by x v.own.made ≡ steps_in x k.events + steps_by x now.own.made)
    → Stepped v e now (stepped v now (steps_to k) e)
stepped_now key s t k j id v now word found next at up there is grows counts = let e : Step (List Event) = record { word = word; found = found; then = now_at k; next = next } in let sees = sees_of key s k id v at in record {
  sees = sees;
  is = is ∙ ap (λ (z : List ℕ). get_or z word 0) (sym (sees_words key s k id v at));
  acts = acts_step v now (steps_to k) e (k.order.course.seen (suc id) v at) (λ whole. k.newest id v at whole up) sees grows counts;
  valid = valid_of key t j id (stepped v now (steps_to k) e) there;
}

pub found_now : (key : Shape) (s : St) (k : Rule key s) (i id : ℕ) (v : View) → get_elem? s.views id ≡ some v → IsActive v → Found v i (get_or s.words i 0) (looked v i (get_or s.words i 0) (steps_to k) (now_at k))
found_now key s k i id v at live = stepped_now key s _ k (kept_look key s k i id (get_or s.words i 0) v refl at live) id v (quiet v) i (get_or s.words i 0) (now_at k) at live.1
    (set_here s.views id _ (at_below s.views id v at)) refl (begins_refl k.events) (λ x. refl)

-- what the hand has then is what its call has
pub stood_look : (key : Shape) (s : St) (k : Rule key s) (id i found : ℕ) (v : View) → get_elem? s.views id ≡ some v → HandStands id (looked v i found (steps_to k) (now_at k))
stood_look key s k id i found v at = hand_quiet id v (looked v i found (steps_to k) (now_at k)) (elements_after k.events) refl refl refl refl refl (k.hands id v at)

pub stood : (call id now : ℕ) (w : View) → call ≡ id → now ≡ id → HandStands call w → ∥ HasStood now w ∥₁
stood call id now w mine same is = ∣ (λ made. subst (λ (z : ℕ). HandStands z w) (mine ∙ sym same) is) ∣₁

pub looks : (key : Shape) (n id : ℕ) (me : Me Unit View) (call i : ℕ) → call ≡ id → IsActive me.0 → Allows (Rule key) n id me i (λ x. x) (finds call (step n i 0 0 none) me)
looks key n id me call i mine live s k _ at _ = let found : ℕ = get_or s.words i 0 in let w : View = looked me.0 i found (steps_to k) (now_at k) in
    (w, keeps, tt, kept_look key s k i id found me.0 refl at live, (refl, found_now key s k i id me.0 at live, subst (λ (z : ℕ). HandStands z w) (sym mine) (stood_look key s k id i found me.0 at)))
