-- An end can go on as a new one: the old one is then spent.
use Rattle.table_theory.proofs.Common.{◌≡◌, ℕ, zero, suc, ◌<◌, ◌≤◌, Bool, true, false, List, [], ◌∷◌, ◌++◌, map, length, set, sym, refl, ap, ◌∙◌, subst, arith, if◌then◌else◌, nat_lt, some, get_elem?, set_again, at_last, at_longer, AbsState, EndState, IsCourse, later_of, entry_of, ObjectModel, Step, IsIdle, EndsStand, AreValidViews, opened, emptied, total}
use Rattle.table_theory.proofs.Courses.{Runs, course_split, course_join}
use Rattle.table_theory.proofs.Orders.{IsIn, in_order, ordered}
use Rattle.table_theory.proofs.Ledgers.{steps_to, order_of, with_ends}
use Rattle.table_theory.proofs.Owned.{all_set, all_push, at_below}
use Rattle.table_theory.proofs.Totals.{total_set, total_push}

-- a new entry takes the place of an old one
pub last : {A : Type 0} (xs : List A) (y z : A) → set (xs ++ y ∷ []) (length xs) z ≡ xs ++ z ∷ []
last [] y z = refl
last (x ∷ xs) y z = ap (λ l. x ∷ l) (last xs y z)

pub in_place : {A : Type 0} (xs : List A) (y z s : A) (i : ℕ) → i < length xs → set (set (xs ++ y ∷ []) (length xs) z) i s ≡ set xs i s ++ z ∷ []
in_place [] y z s i h = absurd (omega arith)
in_place (x ∷ xs) y z s zero h = ap (λ l. s ∷ l) (last xs y z)
in_place (x ∷ xs) y z s (suc i) h = ap (λ l. x ∷ l) (in_place xs y z s i (omega arith))

both_ways : {E : Type 0} (t : Bool) (l : List E) → (if t then l else l) ≡ l
both_ways true l = refl
both_ways false l = refl

later_same : {E : Type 0} (l : List E) → l ≡ later_of l l
later_same l = sym (both_ways (nat_lt (length l) (length l)) l)

module _ {K O : Type 0} (T : ObjectModel O) (nothing : K) where
  abbrev V : Type 0
  V = EndState K O

  all_moved : (P : V → Type 0) (vs : List V) (j : ℕ) (v e : V) → ((i : ℕ) (u : V) → get_elem? vs i ≡ some u → P u) → P e → P v → (i : ℕ) (u : V) → get_elem? (set vs j e ++ v ∷ []) i ≡ some u → P u
  all_moved P vs j v e old spent mine = all_push P (set vs j e) v (all_set P vs j e old spent) mine

  total_moved : (f : V → ℕ) (vs : List V) (j : ℕ) (v e : V) → get_elem? vs j ≡ some v → f e ≡ 0 → total f (set vs j e ++ v ∷ []) ≡ total f vs
  total_moved f vs j v e at none = let t = total_set f vs j v e at in let p = total_push f (set vs j e) v in omega arith

  stand_moved : (n : ℕ) (vs : List V) (j : ℕ) (v : V) → EndsStand nothing n vs → get_elem? vs j ≡ some v → EndsStand nothing n (set vs j (emptied nothing v) ++ v ∷ [])
  stand_moved n vs j v h at = let e : V = emptied nothing v in record {
    counted = record {
      counted = total_moved (λ z. z.member.ends) vs j v e at refl ∙ h.counted.counted;
      shared = total_moved (λ z. z.member.share) vs j v e at refl ∙ h.counted.shared;
      within = all_moved (λ z. z.member.ends ≤ z.member.share) vs j v e h.counted.within (omega arith) (h.counted.within j v at);
      spent = all_moved (λ z. z.member.ends ≡ 0 → (z.member.share ≡ 0) × IsIdle nothing z) vs j v e h.counted.spent (λ _. (refl, record { own = refl; splits = refl; joins = refl; steps = refl })) (h.counted.spent j v at);
    };
    balanced = let b = h.balanced in let x = total_moved (λ z. z.member.joins) vs j v e at refl in let y = total_moved (λ z. z.member.splits) vs j v e at refl in omega arith;
  }

  abbrev steps_of : V → List (Step O)
  steps_of v = v.steps

  abbrev course_of : V → List (Step O)
  course_of v = v.course

  course_moved : (first : O) (now : AbsState O) (vs : List V) (j : ℕ) (v : V) → get_elem? vs j ≡ some v → (c : IsCourse steps_of course_of (opened first) now vs) → Runs steps_of course_of (opened first) now (map entry_of c.course) (set vs j (emptied nothing v) ++ v ∷ [])
  course_moved first now vs j v at c = let e : V = emptied nothing v in let o : AbsState O = opened first in let all : List (Step O) = map entry_of c.course in let n : ℕ = length vs in let below : j < n = at_below vs j v at in
      let longer : Runs steps_of course_of o now all (vs ++ e ∷ []) = subst (λ (z : List V). Runs steps_of course_of o now all (z ++ e ∷ [])) (set_again vs j v at) (course_split steps_of course_of o now vs j v v e c at refl refl refl refl) in
      let joined = course_join steps_of course_of o now (vs ++ e ∷ []) n j e v v e longer.0 (at_last vs e n refl) (at_longer vs (e ∷ []) j v at) (λ z. omega arith) refl (later_same v.course) refl refl in
      subst (Runs steps_of course_of o now all) (in_place vs e v e j below) (joined.0, joined.1 ∙ longer.1)

  -- the ledgers stay true
  pub true_moved : (first : O) (now : AbsState O) (vs : List V) (j : ℕ) (v : V) → AreValidViews T nothing first now vs → get_elem? vs j ≡ some v → AreValidViews T nothing first now (set vs j (emptied nothing v) ++ v ∷ [])
  true_moved first now vs j v t at = let e : V = emptied nothing v in let old = order_of t in let mine = in_order T old j v at in
      with_ends (ordered T first now (steps_to t) (set vs j e ++ v ∷ []) (course_moved first now vs j v at t.course) t.real (all_moved (IsIn T first (steps_to t)) vs j v e (in_order T old) mine mine)) (stand_moved now.ends vs j v t.ends at)
