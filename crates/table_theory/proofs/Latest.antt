-- Of two ends that have seen beginnings of one order, the later has seen what the other had.
use Rattle.table_theory.proofs.Common.{◌≡◌, ℕ, ◌≤◌, Bool, true, false, List, [], ◌∷◌, ◌++◌, length, sym, refl, ap, ◌∙◌, arith, if◌then◌else◌, nat_lt, ltb-true, some, get_elem?, AbsState, EndState, Begins, ObjectModel, Reaches, AreValidViews, both}
use Rattle.table_theory.proofs.Ledgers.{order_of}
use Rattle.table_theory.proofs.Orders.{order_true}
use Rattle.table_theory.proofs.Reaching.{reaches_here, reaches_led}

module _ {E : Type 0} where
  abbrev head_or : E → List E → E
  head_or d [] = d
  head_or d (x ∷ xs) = x

  abbrev tail_of : List E → List E
  tail_of [] = []
  tail_of (x ∷ xs) = xs

  -- of two beginnings of one list, the longer begins with the other
  pub shorter : (a b c d : List E) → a ++ c ≡ b ++ d → length a ≤ length b → Begins a b
  shorter [] b c d e h = (b, refl)
  shorter (x ∷ a) [] c d e h = absurd (omega arith)
  shorter (x ∷ a) (y ∷ b) c d e h = let r = shorter a b c d (ap tail_of e) (omega arith) in (r.0, λ i. head_or x (e i) ∷ r.1 i)

module _ {K O : Type 0} (T : ObjectModel O) (nothing : K) (plus : K → K → K) where
  -- real steps lead from what the shorter has seen to what the longer has
  longer_leads : (first : O) (now : AbsState O) (vs : List (EndState K O)) (j k : ℕ) (v u : EndState K O) → AreValidViews T nothing first now vs → get_elem? vs j ≡ some v → get_elem? vs k ≡ some u → length v.course ≤ length u.course → Reaches T v.seen u.seen
  longer_leads first now vs j k v u t at at' h = let a = t.course.seen j v at in let b = t.course.seen k u at' in
      reaches_led T v u (order_true T first now vs j v (order_of t) at).leads (order_true T first now vs k u (order_of t) at') (t.first_is k u at' ∙ sym (t.first_is j v at)) (shorter v.course u.course a.0 b.0 (a.1 ∙ sym b.1) h)

  picked : (b : Bool) (m n : AbsState O) → Reaches T m m → (b ≡ true → Reaches T m n) → Reaches T m (if b then n else m)
  picked true m n here there = there refl
  picked false m n here there = here

  -- to what an end sees that took in another
  pub both_leads : (first : O) (now : AbsState O) (vs : List (EndState K O)) (j k : ℕ) (v u : EndState K O) → AreValidViews T nothing first now vs → get_elem? vs j ≡ some v → get_elem? vs k ≡ some u → Reaches T v.seen (both plus v u).seen
  both_leads first now vs j k v u t at at' = picked (nat_lt (length v.course) (length u.course)) v.seen u.seen (reaches_here T v.seen) (λ is. longer_leads first now vs j k v u t at at' (let l = ltb-true (length v.course) (length u.course) is in omega arith))
