-- The course of a table as it is made, and through a join, which is a step of no hand.
use Rattle.thread_table.proofs.Common.{◌≡◌, ◌≢◌, ℕ, suc, true, false, List, [], ◌∷◌, ◌++◌, ◌∙◌, set, sym, refl, subst, ⊎_elim, arith, length-append, some, some-ne-none, get_elem?, ObjectModel, IsValidStep, opened, first_of, AreOrdered, order_to, order_split, split_order, order_step, at_push, Event, HandState, View, joining, is_join, nothing_of, Past, Course, had_by_both, both, emptied}
use Rattle.table_theory.specs.Ledgers.{Step}
use Rattle.table_theory.proofs.Orders.{after, order_first, first_order, order_join}
use Rattle.event_theory.specs.declared.event.Event.TheVariants as events
use Rattle.thread_table.specs.Joins.{AreJoins}
use Rattle.thread_table.proofs.Schedule.JoinEvents.{count_more, count_same}

pub no_joins : AreJoins [] []
no_joins = record { each = λ i e has. absurd (some-ne-none e (sym has)); all = refl }

-- an event that is no join
pub joins_same : (past : List Event) (event : Event) (joins : Course) → is_join event ≡ false → AreJoins past joins → AreJoins (past ++ event ∷ []) joins
joins_same past event joins plain are = record { each = are.each; all = count_same is_join past event plain ∙ are.all }

joins_more : (joins : Course) (past : Past) (id other : ℕ) → AreJoins past.object joins → AreJoins (past.object ++ events.Join id other ∷ []) (joins ++ joining past id other ∷ [])
joins_more joins past id other are = record {
  each = λ i e has. ⊎_elim (λ h. are.each i e h)
      (λ t. subst (λ (z : Step (List Event)). (call : ℕ) × (it : ℕ) × (z ≡ joining z.then call it)) t.1 (id, other, refl)) (at_push joins (joining past id other) e i has);
  all = (let c = count_more is_join past.object (events.Join id other) true refl in let l = length-append joins (joining past id other ∷ []) in let a = are.all in omega arith);
}

-- no hand has made a step
pub order_opened : (T : ObjectModel (List Event)) (own : HandState) → (o : AreOrdered T [] (opened []) (first_of own [] ∷ first_of own [] ∷ [])) × (order_to o ≡ [])
order_opened T own = let t = order_first T own [] in let w : View = first_of own [] in
    (order_split T [] (opened []) (w ∷ []) 0 w own own w.member w.member t refl, split_order T [] (opened []) (w ∷ []) 0 w own own w.member w.member t refl ∙ first_order T own [])

-- a join comes after all steps
pub order_joined : (T : ObjectModel (List Event)) (now : Past) (views : List View) (joiner : View) (id other : ℕ) (v w : View) → AreJoins now.object joiner.steps → AreOrdered T [] now (joiner ∷ views) → IsValidStep T (joining now id other)
    → get_elem? views id ≡ some v → get_elem? views other ≡ some w → other ≢ id
    → (next : View) × AreJoins (now.object ++ events.Join id other ∷ []) next.steps × AreOrdered T [] (joining now id other).next (next ∷ set (set views id (both v w)) other (emptied v))
order_joined T now views joiner id other v w are order here at at' ne =
    let e : Step (List Event) = joining now id other in let vs : List View = set (set views id (both v w)) other (emptied v) in
    let t : AreOrdered T [] now (joiner ∷ vs) = order_join T (nothing_of v.own.first) had_by_both [] now (joiner ∷ views) (suc id) (suc other) v w order at at' (λ z. ne (omega arith)) in
    (after joiner joiner.own joiner.member (order_to t) e, joins_more joiner.steps now id other are, order_step T [] now (joiner ∷ vs) 0 joiner joiner.own joiner.member e t refl refl here)
