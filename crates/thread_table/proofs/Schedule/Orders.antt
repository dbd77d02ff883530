-- The steps that a hand has seen are in order, and the events that each found grow into those of the next.
use Rattle.thread_table.proofs.Common.{◌≡◌, ◌⊎◌, inl, inr, ℕ, List, [], ◌∷◌, ◌++◌, ◌∙◌, sym, ap, subst, length, length-append, arith, ⊎_elim, append_cancel_left, ∥∥₁_elim, ∥∥₁_map, Hand, view_of, append_assoc, AllByRecursion, Event, Continues, Begins, StepEffect, stays, event, more, fewer, ExtendsTrace, opened, count_down, begins_refl, begins_trans, ends_word, View, Past, Grows, Step, JoinedBy, of_hands, IsValidHandView}
use Rattle.table_theory.proofs.Alone.{no_longer}
use Rattle.std.proofs.lemmas.List.{append-nil}
use Rattle.table_theory.specs.Ledgers.{Reaches, Passes}
use Rattle.table_theory.proofs.Reaching.{passes_led, passes_some, reaches_led, entries_real}
use Rattle.thread_table.specs.Schedules.{elements_after, IsAllowed}
use Rattle.thread_table.specs.Entries.{AreInOrder}
use Rattle.thread_table.specs.Telling.{Happens, IsValidHandStep}
use Rattle.thread_table.proofs.Schedule.Schedules.{grows_refl, grows_trans}

module _ (first : ℕ) where
  -- the events that a step leaves are those that it found, or one more
  pub moves : (m n : Past) → StepEffect (of_hands first) m n → (n.object ≡ m.object) ⊎ Happens m.object n.object
  moves m n (stays is) = inl (ap (λ (z : Past). z.object) is)
  moves m n (event next happens is) = inr (subst (λ (z : Past). Happens m.object z.object) (sym is) happens)
  moves m n (more is) = inl (ap (λ (z : Past). z.object) is)
  moves m n (fewer is some) = inl (ap (λ (z : Past). z.object) is)

  -- so they lead on
  abbrev LeadsOn : List Event → List Event → Type 0
  LeadsOn p q = Begins p q × Grows (elements_after p) (elements_after q)

  move_leads : (p q : List Event) → (q ≡ p) ⊎ Happens p q → LeadsOn p q
  move_leads p q (inl same) = subst (LeadsOn p) (sym same) (begins_refl p, grows_refl (elements_after p))
  move_leads p q (inr happens) = ((happens.0 ∷ [], sym happens.1), happens.3)

  -- a real step leaves events that are allowed
  pub real_allows : (e : Step) → IsValidHandStep first e → IsAllowed e.next.object
  real_allows e r = ⊎_elim (λ same. subst IsAllowed (sym same) r.lawful) (λ happens. happens.2) (moves e.then e.next r.effect)

  -- real steps lead on
  steps_lead : (m n : Past) (es : List Step) → Continues m es n → AllByRecursion (IsValidHandStep first) es → LeadsOn m.object n.object
  steps_lead m n [] c r = subst (λ (z : Past). LeadsOn m.object z.object) c (begins_refl m.object, grows_refl (elements_after m.object))
  steps_lead m n (e ∷ es) c r = let a = subst (λ (z : Past). LeadsOn z.object e.next.object) (sym c.0) (move_leads e.then.object e.next.object (moves e.then e.next r.0.effect)) in let b = steps_lead e.next n es c.1 r.1 in
      (begins_trans m.object e.next.object n.object a.0 b.0, grows_trans (elements_after m.object) (elements_after e.next.object) (elements_after n.object) a.1 b.1)

  pub reach_leads : (m n : Past) → Reaches (of_hands first) m n → Begins m.object n.object × Grows (elements_after m.object) (elements_after n.object)
  reach_leads m n r = steps_lead m n r.steps r.leads r.real

  -- entries that real steps pass are in order
  in_order : (m n : Past) (es : List Step) → Passes (of_hands first) m es n → AreInOrder m es
  in_order m n [] p = tt
  in_order m n (e ∷ es) p = let l = reach_leads m e.then p.0 in (l.0, l.1, in_order e.next n es p.2)

-- the entries that a call added are passed after what the hand had seen
pub adds_pass : (v w : View) (entries : List Step) → IsValidHandView v → IsValidHandView w → ExtendsTrace v entries w → Passes (of_hands w.own.first) v.seen entries w.seen
adds_pass v w entries hv hw a = passes_led (of_hands w.own.first) v w entries hv.list.leads hw.list a

pub adds_in_order : (v w : View) (entries : List Step) → IsValidHandView v → IsValidHandView w → ExtendsTrace v entries w → AreInOrder v.seen entries
adds_in_order v w entries hv hw a = in_order w.own.first v.seen w.seen entries (adds_pass v w entries hv hw a)

-- they are in order among themselves
pub adds_follow : (v w : View) (entries : List Step) → IsValidHandView w → ExtendsTrace v entries w → (p : Past) × AreInOrder p entries
adds_follow v w entries hw a = let s = passes_some (of_hands w.own.first) v w entries hw.list a in (s.0, in_order w.own.first s.0 w.seen entries s.1)

-- and they are real
pub adds_real : (v w : View) (entries : List Step) → IsValidHandView w → ExtendsTrace v entries w → AllByRecursion (IsValidHandStep w.own.first) entries
adds_real v w entries h a = entries_real (of_hands w.own.first) v w entries h.list a

-- a join leads from what both had seen
pub joins_reach : (v u w : View) → IsValidHandView v → IsValidHandView w → JoinedBy v u w → Reaches (of_hands w.own.first) v.seen w.seen
joins_reach v u w hv hw t = reaches_led (of_hands w.own.first) v w hv.list.leads hw.list t.acts.adds.first t.one

pub joins_reach_other : (v u w : View) → IsValidHandView u → IsValidHandView w → JoinedBy v u w → Reaches (of_hands w.own.first) u.seen w.seen
joins_reach_other v u w hu hw t = reaches_led (of_hands w.own.first) u w hu.list.leads hw.list (t.acts.adds.first ∙ sym t.one_object) t.other

pub join_real : (v u w : View) → IsValidHandView w → (t : JoinedBy v u w) → IsValidHandStep w.own.first (count_down ends_word t.found)
join_real v u w h t = (entries_real (of_hands w.own.first) _ w (count_down ends_word t.found ∷ []) h.list t.acts.adds).0

-- a list that the same list begins and ends is that list
both_ways : (m n p : List Event) → m ≡ n → Begins m p → Begins p n → n ≡ p
both_ways m n p same x y = no_longer p n y (omega (arith, ap length same, ap length x.1, length-append m x.0))

-- what a hand had seen before grows into what it sees
begins_grow : (first : ℕ) (m n : Past) (p : List Event) (es : List Step) → Continues m es n → AllByRecursion (IsValidHandStep first) es → Begins m.object p → Begins p n.object → Grows (elements_after p) (elements_after n.object)
begins_grow first m n p [] c r a b = subst (λ (z : List Event). Grows (elements_after z) (elements_after n.object)) (both_ways m.object n.object p (ap (λ (z : Past). z.object) c) a b) (grows_refl (elements_after n.object))
begins_grow first m n p (e ∷ es) c r a b = by (λ z x y. begins_grow first e.next n z es c.1 r.1 x y) (moves first e.then e.next r.0.effect) a.0 a.1
  where
    then_is : m.object ≡ e.then.object
    then_is = ap (λ (z : Past). z.object) c.0

    on : LeadsOn first e.next.object n.object
    on = steps_lead first e.next n es c.1 r.1

    by : ((z : List Event) → Begins e.next.object z → Begins z n.object → Grows (elements_after z) (elements_after n.object)) → (e.next.object ≡ e.then.object) ⊎ Happens e.then.object e.next.object → (q : List Event) → m.object ++ q ≡ p → Grows (elements_after p) (elements_after n.object)
    by go (inl same) q is = go p (subst (λ (z : List Event). Begins z p) (then_is ∙ sym same) a) b
    by go (inr happens) [] is = subst (λ (z : List Event). Grows (elements_after z) (elements_after n.object)) (sym then_is ∙ (sym (append-nil m.object) ∙ is)) (grows_trans (elements_after e.then.object) (elements_after e.next.object) (elements_after n.object) happens.3 on.1)
    by go (inr happens) (x ∷ q) is =
        let next_is : m.object ++ happens.0 ∷ [] ≡ e.next.object = ap (λ (z : List Event). z ++ happens.0 ∷ []) then_is ∙ sym happens.1 in
        let one : m.object ++ happens.0 ∷ on.0.0 ≡ n.object = sym (append_assoc m.object (happens.0 ∷ []) on.0.0) ∙ (ap (λ (z : List Event). z ++ on.0.0) next_is ∙ on.0.1) in
        let two : m.object ++ x ∷ (q ++ b.0) ≡ n.object = sym (append_assoc m.object (x ∷ q) b.0) ∙ (ap (λ (z : List Event). z ++ b.0) is ∙ b.1) in
        let rest : happens.0 ∷ on.0.0 ≡ x ∷ (q ++ b.0) = append_cancel_left m.object (happens.0 ∷ on.0.0) (x ∷ (q ++ b.0)) (one ∙ sym two) in let same : happens.0 ≡ x = cc in
        go p (q, ap (λ (z : List Event). z ++ q) (sym next_is) ∙ (append_assoc m.object (happens.0 ∷ []) q ∙ (ap (λ (z : Event). m.object ++ z ∷ q) same ∙ is))) b

-- any of the events that a hand has seen lead on to all of them
pub valid_grows : (v : View) → IsValidHandView v → (p : List Event) → Begins p v.seen.object → Grows (elements_after p) (elements_after v.seen.object)
valid_grows v h p b = begins_grow v.own.first (opened v.first) v.seen p v.course h.list.leads h.list.real (p, ap (λ (z : List Event). z ++ p) h.first) b

-- a consequence of two hands' lists, of which each is true
pub both_told : (old new : Hand) (P : Type 0) → (IsValidHandView (view_of old) → IsValidHandView (view_of new) → P) → ∥ P ∥₁
both_told old new P reports = ∥∥₁_elim old.valid squash₁ (λ (x : IsValidHandView (view_of old)). ∥∥₁_map new.valid (λ h. reports x h))
