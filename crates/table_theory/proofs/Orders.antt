-- Several ends' steps stay in one order, through each step, a split and a join, and each step gives its end what the
-- step states.
use Rattle.table_theory.proofs.Common.{◌≡◌, ◌≢◌, ℕ, Bool, true, false, List, [], ◌∷◌, ◌++◌, map, length, set, sym, refl, ap, ◌∙◌, subst, if◌then◌else◌, nat_lt, append_assoc, append-nil, AllByRecursion, some, get_elem?, AbsState, Part, EndState, Continues, entry_of, Begins, IsWhole, ObjectModel, Step, IsValidStep, IsValidView, Reaches, ExtendsTrace, opened, first_of, both, emptied, AreOrdered}
use Rattle.std.proofs.lemmas.List.{append_cancel_left}
use Rattle.table_theory.proofs.Courses.{Runs, course_step, course_split, course_join, course_first}
use Rattle.table_theory.proofs.Ends.{begins_refl, begins_on}
use Rattle.table_theory.proofs.Reaching.{all_on, all_before, all_after, continues_on, continues_after, continues_same, continues_one, weaves_one}
use Rattle.table_theory.proofs.Alone.{own_hold}
use Rattle.table_theory.proofs.Owned.{all_set, all_push, all_one}

module _ {K O : Type 0} where
  -- the view after a step, with this own and as this one of the ends
  abbrev pub after : EndState K O → K → Part → List (Step O) → Step O → EndState K O
  after v own member before e = record {
    first = v.first;
    own = own;
    seen = e.next;
    member = member;
    steps = v.steps ++ e ∷ [];
    course = before ++ e ∷ [];
    joined = before ++ e ∷ [];
    joined_first = v.first;
  }

  -- the view with another own and another member, which lists this
  abbrev pub having : EndState K O → K → Part → List (Step O) → EndState K O
  having v own member steps = record v { own = own; member = member; steps = steps }

-- all steps of all ends up to now
abbrev pub order_to : {K O : Type 0} {T : ObjectModel O} {first : O} {now : AbsState O} {vs : List (EndState K O)} → AreOrdered T first now vs → List (Step O)
order_to t = map entry_of t.course.course

module _ {K O : Type 0} (T : ObjectModel O) where
  -- the same order, for a moment that is known by another name
  pub order_at : (first : O) (vs : List (EndState K O)) (m n : AbsState O) → m ≡ n → (t : AreOrdered T first m vs) → (same : AreOrdered T first n vs) × (order_to same ≡ order_to t)
  order_at first vs m n is t = subst (λ (z : AbsState O). (same : AreOrdered T first z vs) × (order_to same ≡ order_to t)) is (t, refl)

  abbrev steps_of : EndState K O → List (Step O)
  steps_of v = v.steps

  abbrev course_of : EndState K O → List (Step O)
  course_of v = v.course

  -- what an end is whose object is the first, and whose steps are among these
  abbrev pub IsIn : O → List (Step O) → EndState K O → Type 0
  IsIn first steps v = (v.first ≡ first) × Continues (opened first) v.course v.seen × Begins v.joined steps × (v.joined_first ≡ first)

  abbrev pub in_order : {first : O} {now : AbsState O} {vs : List (EndState K O)} (t : AreOrdered T first now vs) (j : ℕ) (v : EndState K O) → get_elem? vs j ≡ some v → IsIn first (order_to t) v
  in_order t j v at = (t.first_is j v at, t.seen j v at, t.joined j v at, t.joined_first j v at)

  abbrev pub ordered : (first : O) (now : AbsState O) (steps : List (Step O)) (vs : List (EndState K O)) → Runs steps_of course_of (opened first) now steps vs → AllByRecursion (IsValidStep T) steps → ((j : ℕ) (v : EndState K O) → get_elem? vs j ≡ some v → IsIn first steps v) → AreOrdered T first now vs
  ordered first now steps vs r real each = record {
    course = r.0;
    real = subst (AllByRecursion (IsValidStep T)) (sym r.1) real;
    first_is = λ j v at. (each j v at).0;
    seen = λ j v at. (each j v at).1;
    joined = λ j v at. subst (Begins v.joined) (sym r.1) (each j v at).2;
    joined_first = λ j v at. (each j v at).3;
  }

  -- each end's own steps are real
  own_real : (first : O) (now : AbsState O) (vs : List (EndState K O)) (j : ℕ) (v : EndState K O) (t : AreOrdered T first now vs) → get_elem? vs j ≡ some v → AllByRecursion (IsValidStep T) v.steps
  own_real first now vs j v t at = own_hold steps_of course_of (IsValidStep T) (opened first) now vs j v t.course at t.real

  -- an end that has seen all steps has seen the object as it is
  pub newest_seen : (first : O) (now : AbsState O) (vs : List (EndState K O)) (j : ℕ) (v : EndState K O) (t : AreOrdered T first now vs) → get_elem? vs j ≡ some v → order_to t ≡ v.course → now ≡ v.seen
  newest_seen first now vs j v t at all = continues_same (opened first) now v.seen v.course (subst (λ (z : List (Step O)). Continues (opened first) z now) all t.course.continues) (t.seen j v at)

  -- an end's list is true
  pub order_true : (first : O) (now : AbsState O) (vs : List (EndState K O)) (j : ℕ) (v : EndState K O) → AreOrdered T first now vs → get_elem? vs j ≡ some v → IsValidView T v
  order_true first now vs j v t at = let b : Begins v.course (order_to t) = t.course.seen j v at in record {
    leads = subst (λ (z : O). Continues (opened z) v.course v.seen) (sym (t.first_is j v at)) (t.seen j v at);
    real = all_before (IsValidStep T) v.course b.0 (subst (AllByRecursion (IsValidStep T)) (sym b.1) t.real);
    own = own_real first now vs j v t at;
  }

  -- what an end had seen leads to now
  pub order_leads : (first : O) (now : AbsState O) (vs : List (EndState K O)) (j : ℕ) (v : EndState K O) → AreOrdered T first now vs → get_elem? vs j ≡ some v → Reaches T v.seen now
  order_leads first now vs j v t at = let b : Begins v.course (order_to t) = t.course.seen j v at in record {
    steps = b.0;
    leads = continues_after (opened first) v.seen now v.course b.0 (t.seen j v at) (subst (λ (z : List (Step O)). Continues (opened first) z now) (sym b.1) t.course.continues);
    real = all_after (IsValidStep T) v.course b.0 (subst (AllByRecursion (IsValidStep T)) (sym b.1) t.real);
  }

  -- a step adds its entry, if an end that has the whole had seen all steps
  pub order_adds : (first : O) (now : AbsState O) (vs : List (EndState K O)) (j : ℕ) (v : EndState K O) (own : K) (member : Part) (e : Step O) (t : AreOrdered T first now vs) → get_elem? vs j ≡ some v → (IsWhole v.member.share → order_to t ≡ v.course) → ExtendsTrace v (e ∷ []) (after v own member (order_to t) e)
  order_adds first now vs j v own member e t at newest = let b : Begins v.course (order_to t) = t.course.seen j v at in record {
    first = refl;
    entries_are = refl;
    since = b.0 ++ e ∷ [];
    course_is = ap (λ (z : List (Step O)). z ++ e ∷ []) (sym b.1) ∙ append_assoc v.course b.0 (e ∷ []);
    own = weaves_one b.0 e;
    alone = λ whole. ap (λ (z : List (Step O)). z ++ e ∷ []) (nothing_more v.course b.0 (b.1 ∙ newest whole));
  }
    where
      nothing_more : (a rest : List (Step O)) → a ++ rest ≡ a → rest ≡ []
      nothing_more a rest is = append_cancel_left a rest [] (is ∙ sym (append-nil a))

  -- the end's list is true after the step
  pub order_after : (first : O) (now : AbsState O) (vs : List (EndState K O)) (j : ℕ) (v : EndState K O) (own : K) (member : Part) (e : Step O) (t : AreOrdered T first now vs) → get_elem? vs j ≡ some v → e.then ≡ now → IsValidStep T e → IsValidView T (after v own member (order_to t) e)
  order_after first now vs j v own member e t at found real = record {
    leads = subst (λ (z : O). Continues (opened z) (order_to t ++ e ∷ []) e.next) (sym (t.first_is j v at)) (continues_on (opened first) now e.next (order_to t) (e ∷ []) t.course.continues (continues_one now e found));
    real = all_on (IsValidStep T) (order_to t) (e ∷ []) t.real (real, tt);
    own = all_on (IsValidStep T) v.steps (e ∷ []) (own_real first now vs j v t at) (real, tt);
  }

  -- and the order goes on by it
  pub order_step : (first : O) (now : AbsState O) (vs : List (EndState K O)) (j : ℕ) (v : EndState K O) (own : K) (member : Part) (e : Step O) (t : AreOrdered T first now vs) → get_elem? vs j ≡ some v → e.then ≡ now → IsValidStep T e → AreOrdered T first e.next (set vs j (after v own member (order_to t) e))
  order_step first now vs j v own member e t at found real = let w : EndState K O = after v own member (order_to t) e in let old : List (Step O) = order_to t in let new : List (Step O) = old ++ e ∷ [] in
      ordered first e.next new (set vs j w) (course_step steps_of course_of (opened first) now vs j v w e t.course at found refl refl) (all_on (IsValidStep T) old (e ∷ []) t.real (real, tt))
      (all_set (IsIn first new) vs j w (λ i u has. let x = in_order t i u has in (x.0, x.1, begins_on u.joined old e x.2, x.3))
      (t.first_is j v at, continues_on (opened first) now e.next old (e ∷ []) t.course.continues (continues_one now e found), begins_refl new, t.first_is j v at))

  -- its entries are those up to then, and this one
  pub step_order : (first : O) (now : AbsState O) (vs : List (EndState K O)) (j : ℕ) (v : EndState K O) (own : K) (member : Part) (e : Step O) (t : AreOrdered T first now vs) (at : get_elem? vs j ≡ some v) (found : e.then ≡ now) (real : IsValidStep T e) → order_to (order_step first now vs j v own member e t at found real) ≡ order_to t ++ e ∷ []
  unfolding order_step
  step_order first now vs j v own member e t at found real = (course_step steps_of course_of (opened first) now vs j v (after v own member (order_to t) e) e t.course at found refl refl).1

  pub order_split : (first : O) (now : AbsState O) (vs : List (EndState K O)) (j : ℕ) (v : EndState K O) (own other : K) (part rest : Part) → AreOrdered T first now vs → get_elem? vs j ≡ some v → AreOrdered T first now (set vs j (having v own part v.steps) ++ having v other rest [] ∷ [])
  order_split first now vs j v own other part rest t at = let left : EndState K O = having v own part v.steps in let right : EndState K O = having v other rest [] in let old : List (Step O) = order_to t in let mine = in_order t j v at in
      ordered first now old (set vs j left ++ right ∷ []) (course_split steps_of course_of (opened first) now vs j v left right t.course at refl refl refl refl) t.real (all_push (IsIn first old) (set vs j left) right (all_set (IsIn first old) vs j left (in_order t) mine) mine)

  pub split_order : (first : O) (now : AbsState O) (vs : List (EndState K O)) (j : ℕ) (v : EndState K O) (own other : K) (part rest : Part) (t : AreOrdered T first now vs) (at : get_elem? vs j ≡ some v) → order_to (order_split first now vs j v own other part rest t at) ≡ order_to t
  unfolding order_split
  split_order first now vs j v own other part rest t at = (course_split steps_of course_of (opened first) now vs j v (having v own part v.steps) (having v other rest []) t.course at refl refl refl refl).1

  pub order_join : (nothing : K) (plus : K → K → K) (first : O) (now : AbsState O) (vs : List (EndState K O)) (j k : ℕ) (v u : EndState K O) → AreOrdered T first now vs → get_elem? vs j ≡ some v → get_elem? vs k ≡ some u → k ≢ j
      → AreOrdered T first now (set (set vs j (both plus v u)) k (emptied nothing v))
  order_join nothing plus first now vs j k v u t at at' ne = let b : EndState K O = both plus v u in let x : EndState K O = emptied nothing v in let old : List (Step O) = order_to t in let mine = in_order t j v at in
      ordered first now old (set (set vs j b) k x) (course_join steps_of course_of (opened first) now vs j k v u b x t.course at at' ne refl refl refl refl) t.real
      (all_set (IsIn first old) (set vs j b) k x (all_set (IsIn first old) vs j b (in_order t) (by_later (nat_lt (length v.course) (length u.course)) mine (in_order t k u at') (t.course.seen j v at) (t.course.seen k u at'))) mine)
    where
      by_later : (c : Bool) → IsIn first (order_to t) v → IsIn first (order_to t) u → Begins v.course (order_to t) → Begins u.course (order_to t)
          → (v.first ≡ first) × Continues (opened first) (if c then u.course else v.course) (if c then u.seen else v.seen) × Begins (if c then v.course else u.course) (order_to t) × (u.first ≡ first)
      by_later true x y a b = (x.0, y.1, a, y.0)
      by_later false x y a b = (x.0, x.1, b, y.0)

  pub order_first : (own : K) (first : O) → AreOrdered T first (opened first) (first_of own first ∷ [])
  order_first own first = let v : EndState K O = first_of own first in ordered first (opened first) [] (v ∷ []) (course_first steps_of course_of (opened first) v refl refl) tt (all_one (IsIn first []) v (refl, refl, begins_refl [], refl))

  pub first_order : (own : K) (first : O) → order_to (order_first own first) ≡ []
  unfolding order_first
  first_order own first = (course_first steps_of course_of (opened first) (first_of own first) refl refl).1
