-- A split of a hand keeps the rule.
use Rattle.thread_table.proofs.Common.{◌≡◌, ◌≤◌, ⊎_elim, inl, inr, ℕ, suc, Bool, true, false, cond, eqb, eq-eqb, ne_eqb, List, [], ◌∷◌, ◌++◌, ◌∙◌, map, length, get_or, set, Option, option_map, Some, None, refl, sym, ap, subst, arith, length-set, and_parts, some, get_elem?, Splits, Elements, hold, holds, at_map, map-append, map-set, MadeEvent, AreMade, made_of, order_to, order_split, split_order, AreOrdered, ObjectModel, Event, Shape, View, IsSteady, IsNewest, Rule, HandIs, HasStood, Seen, nothing_of, MayStep, has, serves, running, of_hands, parted, rest_without, newborn_with, had_by_both}
use Rattle.std.proofs.lemmas.Bool.{and_cases, not-true, not-false}
use Rattle.std.specs.Prelude.{not}
use Rattle.thread_table.proofs.Lists.Entries.{each_split, Passed, one_passes}
use Rattle.std.proofs.lemmas.List.{length-append}
use Rattle.atomic_table.proofs.Lists.{at_longer, set_again}
use Rattle.thread_table.proofs.Schedule.ListedEvents.{made_new}
use Rattle.thread_table.proofs.Schedule.JoinEvents.{joined_set, joined_new, same_uncounted}
use Rattle.thread_table.proofs.Hands.OnlyLoads.{now_at}
use Rattle.table_theory.specs.Sharing.{IsPortion}
use Rattle.table_theory.proofs.Standing.{stand_parted}
use Rattle.table_theory.proofs.Totals.{one_of}
use Rattle.thread_table.specs.Schedules.{elements_after}
use Rattle.thread_table.proofs.Events.Owing.{claims_kept}
use Rattle.thread_table.proofs.Shown.QueueWords.{none_some}
use Rattle.thread_table.proofs.Lists.Copies.{get_or-copies}
use Rattle.thread_table.proofs.Lists.Entries.{length-parted, parted_and}
use Rattle.thread_table.proofs.Hands.HeldLists.{hand_idle}

-- the mark stays where the mask has none
parted_true : (bs ms : List Bool) (p : ℕ) → get_or (parted bs ms) p false ≡ true → (get_or bs p false ≡ true) × (get_or ms p false ≡ false)
parted_true bs ms p is = let a = and_parts (get_or bs p false) (not (get_or ms p false)) (sym (parted_and bs ms p) ∙ is) in (a.0, not-true (get_or ms p false) a.1)

-- the mask has processors that the hand serves, with nothing on them
abbrev pub CanPart : List Bool → View → Type 0
CanPart mask v = (p : ℕ) → get_or mask p false ≡ true → (serves v p ≡ true) × (running v p ≡ None)

hand_rest : (id : ℕ) (v : View) (parts : ℕ) (mask : List Bool) (e : Elements) → CanPart mask v → HandIs id v e → HandIs id (rest_without parts mask v) e
hand_rest id v parts mask e can h = record {
  held_long = h.held_long;
  serves_long = length-parted v.own.serves mask ∙ h.serves_long;
  on_long = h.on_long;
  held = h.held;
  on = λ p s. h.on p (parted_true v.own.serves mask p s).0;
  off = λ p s. ⊎_elim (λ none. h.off p none) (λ marked. (can p (not-false (get_or mask p false) marked)).1)
      (and_cases (serves v p) (not (get_or mask p false)) (sym (parted_and v.own.serves mask p) ∙ s));
  claimed = h.claimed;
  counted = λ c is. absurd (cc);
}

-- the view that a split leaves, and that of the new hand, which has made no step, have what their calls have
pub rest_stands : (id : ℕ) (v : View) (parts : ℕ) (mask : List Bool) → CanPart mask v → HasStood id v → HasStood id (rest_without parts mask v)
rest_stands id v parts mask can stands made = hand_rest id v parts mask (elements_after v.seen.object) can (stands made)

pub born_stands : (id : ℕ) (v : View) (parts : ℕ) (mask : List Bool) → HasStood id (newborn_with parts mask v)
born_stands id v parts mask made = absurd (made refl)

hand_new : (id call : ℕ) (v : View) (parts : ℕ) (mask : List Bool) (e : Elements) → length mask ≡ 8 → CanPart mask v → HandIs id v e → ((element : ℕ) → holds call element e ≡ false) → HandIs call (newborn_with parts mask v) e
hand_new id call v parts mask e long can h none = hand_idle call v.own.first mask true (newborn_with parts mask v) e long none
    (λ p s. h.on p (can p s).0 ∙ ap (λ (x : Option ℕ). Some (option_map (hold id) x)) (can p s).1)

-- who serves a processor after a split
abbrev name_split : ℕ → ℕ → List Bool → ℕ → ℕ → ℕ
name_split new id mask p seat = cond (eqb seat id) (cond (get_or mask p false) new id) seat

before : (views : List View) (id : ℕ) (v : View) (parts : ℕ) (mask : List Bool) (p : ℕ) → get_elem? views id ≡ some v → CanPart mask v
    → (j : ℕ) (u : View) → get_elem? (set views id (rest_without parts mask v) ++ newborn_with parts mask v ∷ []) j ≡ some u → serves u p ≡ true → Passed (λ o. serves o p) (name_split (length views) id mask p) views j
before views id v parts mask p at can = each_split (λ (j : ℕ) (u : View). serves u p ≡ true → Passed (λ o. serves o p) (name_split (length views) id mask p) views j) views id (rest_without parts mask v) (newborn_with parts mask v)
    (λ j u ne there s. (j, u, there, s, rw (ne_eqb j id ne) refl))
    (λ s. let t = parted_true v.own.serves mask p s in (id, v, at, t.0, rw (eq-eqb id id refl, t.1) refl))
    (λ s. (id, v, at, (can p s).0, rw (eq-eqb id id refl, s) refl))

-- a new hand has no element
has_nothing : (v : View) (parts : ℕ) (mask : List Bool) (x : ℕ) → MayStep (newborn_with parts mask v) x → ⊥
has_nothing v parts mask x may = ⊎_elim (λ held. let no : has (newborn_with parts mask v) x ≡ false = get_or-copies 64 false x in absurd (cc))
    (λ on. none_some x (running (newborn_with parts mask v) on.0) (get_or-copies {X = Option ℕ} 8 None on.0) on.2) may

pub splits : (key : Shape) (id : ℕ) (v : View) (parts : ℕ) (mask : List Bool) → (2 ≤ v.member.share → IsPortion parts v.member.share) → v.member.ends ≡ 2 → length mask ≡ 8 → ((p : ℕ) → get_or mask p false ≡ true → (serves v p ≡ true) × (running v p ≡ None)) → Splits (Rule key) id v (rest_without parts mask v) (newborn_with parts mask v)
splits key id v parts mask fits live long can s k at = let e : Elements = elements_after k.events in let left : View = rest_without parts mask v in let right : View = newborn_with parts mask v in let seen : Seen v k.events = k.seen id v at in let hand : HandIs id v e = k.hands id v at in
    let T : ObjectModel (List Event) = of_hands key.first in let order : AreOrdered T [] (now_at k) (k.joiner ∷ (set s.views id left ++ right ∷ [])) = order_split T [] (now_at k) (k.joiner ∷ s.views) (suc id) v left.own right.own left.member right.member k.order at in record {
      events = k.events;
      allowed = k.allowed;
      shows = k.shows;
      first = each_split (λ (j : ℕ) (u : View). u.own.first ≡ key.first) s.views id left right (λ j u ne there. k.first j u there) (k.first id v at) (k.first id v at);
      seen = each_split (λ (j : ℕ) (u : View). Seen u k.events) s.views id left right (λ j u ne there. k.seen j u there)
          (record { schedule = seen.schedule; grows = seen.grows }) (record { schedule = seen.schedule; grows = seen.grows });
      hands = each_split (λ (j : ℕ) (u : View). HandIs j u e) s.views id left right (λ j u ne there. k.hands j u there) (hand_rest id v parts mask e can hand)
          (hand_new id (length s.views) v parts mask e long can hand (λ element. k.strange (length s.views) element (omega arith)));
      sole = λ i j p. one_passes (λ u. serves u p) (name_split (length s.views) id mask p) s.views (set s.views id left ++ right ∷ []) (λ i j. k.sole i j p) (before s.views id v parts mask p at can) i j;
      owned = λ ring run below is. let o = claims_kept s.views id v left e at refl k.owned ring run below is in (o.0, o.1, at_longer (set s.views id left) (right ∷ []) o.0 o.1 o.2, o.3);
      strange = λ call element past. k.strange call element (omega (arith, past, length-append (set s.views id left) (right ∷ []), length-set s.views id left));
      steady = each_split (λ (j : ℕ) (u : View). IsSteady u k.events) s.views id left right (λ j u ne there. k.steady j u there)
          (λ up x low may. k.steady id v at up x low (⊎_elim (λ held. inl held) (λ on. inr (on.0, (parted_true v.own.serves mask on.0 on.1).0, on.2)) may))
          (λ up x low may. absurd (has_nothing v parts mask x may));
      undoubled = each_split (λ (j : ℕ) (u : View). u.own.doubled ≡ false) s.views id left right (λ j u ne there. k.undoubled j u there) (k.undoubled id v at) refl;
      made = subst (AreMade k.events)
          (sym (map-append made_of (set s.views id left) (right ∷ []) ∙ ap (λ (z : List (List MadeEvent)). z ++ [] ∷ []) (map-set made_of s.views id left ∙ set_again (map made_of s.views) id v.own.made (at_map made_of s.views id v at))))
          (made_new k.events (map made_of s.views) k.made);
      ends = stand_parted (nothing_of key.first) had_by_both (get_or s.words 0 0) s.views id v left right parts fits k.ends at live refl refl;
      joined = joined_new k.events (set s.views id left) right (omega arith) refl (joined_set k.events s.views id v left at (omega arith) (omega arith) (let n = same_uncounted v left refl (omega arith) (omega arith) in omega arith) k.joined);
      joiner = k.joiner;
      are_joins = k.are_joins;
      order = order;
      newest = each_split (λ (j : ℕ) (u : View). IsNewest u (order_to order)) s.views id left right
          (λ j u ne there whole up. split_order T [] (now_at k) (k.joiner ∷ s.views) (suc id) v left.own right.own left.member right.member k.order at ∙ k.newest j u there whole up)
          (λ whole up. let i = k.ends.counted.within id v at in let g = (fits (omega arith)).0 in let b = (fits (omega arith)).1 in let t = one_of (λ (z : View). z.member.share) s.views id v at in let c = k.ends.counted.shared in absurd (omega arith))
          (λ whole up. let i = k.ends.counted.within id v at in let g = (fits (omega arith)).0 in let b = (fits (omega arith)).1 in let t = one_of (λ (z : View). z.member.share) s.views id v at in let c = k.ends.counted.shared in absurd (omega arith));
    }
