-- Real steps from one moment to another, and an end's own among them.
use Rattle.table_theory.proofs.Common.{◌≡◌, ℕ, List, [], ◌∷◌, ◌++◌, sym, refl, ap, ◌∙◌, subst, append_assoc, append-nil, AllByRecursion, Entry, AbsState, EndState, Continues, Begins, IsWhole, ObjectModel, Step, IsValidStep, IsValidView, Reaches, Passes, ExtendsTrace, JoinedBy, opened}
use Rattle.table_theory.specs.Ledgers.{IsSubsequence}

module _ {E : Type 0} (P : E → Type 0) where
  pub all_on : (xs ys : List E) → AllByRecursion P xs → AllByRecursion P ys → AllByRecursion P (xs ++ ys)
  all_on [] ys a b = b
  all_on (x ∷ xs) ys a b = (a.0, all_on xs ys a.1 b)

  pub all_before : (xs ys : List E) → AllByRecursion P (xs ++ ys) → AllByRecursion P xs
  all_before [] ys a = tt
  all_before (x ∷ xs) ys a = (a.0, all_before xs ys a.1)

  pub all_after : (xs ys : List E) → AllByRecursion P (xs ++ ys) → AllByRecursion P ys
  all_after [] ys a = a
  all_after (x ∷ xs) ys a = all_after xs ys a.1

module _ {O : Type 0} where
  pub continues_on : (a b c : O) (xs ys : List (Entry O)) → Continues a xs b → Continues b ys c → Continues a (xs ++ ys) c
  continues_on a b c [] ys h k = subst (λ (z : O). Continues z ys c) (sym h) k
  continues_on a b c (x ∷ xs) ys h k = (h.0, continues_on x.next b c xs ys h.1 k)

  -- what comes after steps that led to b begins there
  pub continues_after : (a b c : O) (xs ys : List (Entry O)) → Continues a xs b → Continues a (xs ++ ys) c → Continues b ys c
  continues_after a b c [] ys h k = subst (λ (z : O). Continues z ys c) h k
  continues_after a b c (x ∷ xs) ys h k = continues_after x.next b c xs ys h.1 k.1

  -- from one, the same steps lead to one alone
  pub continues_same : (a b c : O) (xs : List (Entry O)) → Continues a xs b → Continues a xs c → b ≡ c
  continues_same a b c [] h k = sym h ∙ k
  continues_same a b c (x ∷ xs) h k = continues_same x.next b c xs h.1 k.1

  -- steps lead to a step among them, and on from it
  pub continues_split : (a c : O) (xs : List (Entry O)) (e : Entry O) (ys : List (Entry O)) → Continues a (xs ++ e ∷ ys) c → Continues a xs e.then × Continues e.next ys c
  continues_split a c [] e ys h = h
  continues_split a c (x ∷ xs) e ys h = let s = continues_split x.next c xs e ys h.1 in ((h.0, s.0), s.1)

  -- steps that lead on lead on from where some of them led
  pub continues_cut : (a c : O) (xs ys : List (Entry O)) → Continues a (xs ++ ys) c → (b : O) × Continues b ys c
  continues_cut a c [] ys h = (a, h)
  continues_cut a c (x ∷ xs) ys h = continues_cut x.next c xs ys h.1

  pub continues_one : (m : O) (e : Entry O) → e.then ≡ m → Continues m (e ∷ []) e.next
  continues_one m e t = (sym t, refl)

  pub weaves_one : (others : List (Step O)) (e : Step O) → IsSubsequence (e ∷ []) (others ++ e ∷ [])
  weaves_one others e = (others, [], refl, refl)

  pub weaves_on : (own more all after : List (Step O)) → IsSubsequence own all → IsSubsequence more after → IsSubsequence (own ++ more) (all ++ after)
  weaves_on [] more all after w k = subst (λ (z : List (Step O)). IsSubsequence more (z ++ after)) (sym w) k
  weaves_on (e ∷ own) more all after (others, rest, is, w) k = (
    others,
    rest ++ after,
    ap (λ (z : List (Step O)). z ++ after) is ∙ append_assoc others (e ∷ rest) after,
    weaves_on own more rest after w k,
  )

  -- what holds of all steps holds of an end's own among them
  pub all_own : (P : Step O → Type 0) (own all : List (Step O)) → IsSubsequence own all → AllByRecursion P all → AllByRecursion P own
  all_own P [] all w a = tt
  all_own P (e ∷ own) all (others, rest, is, w) a = let b = all_after P others (e ∷ rest) (subst (AllByRecursion P) is a) in (b.0, all_own P own rest w b.1)

module _ {O : Type 0} (T : ObjectModel O) where
  pub reaches_here : (m : AbsState O) → Reaches T m m
  reaches_here m = record { steps = []; leads = refl; real = tt }

  pub reaches_on : (m n o : AbsState O) → Reaches T m n → Reaches T n o → Reaches T m o
  reaches_on m n o a b = record { steps = a.steps ++ b.steps; leads = continues_on m n o a.steps b.steps a.leads b.leads; real = all_on (IsValidStep T) a.steps b.steps a.real b.real }

  -- steps that lead from one moment to another pass an end's own among them
  passes : (m n : AbsState O) (own all : List (Step O)) → IsSubsequence own all → Continues m all n → AllByRecursion (IsValidStep T) all → Passes T m own n
  passes m n [] all w c r = subst (λ (z : List (Step O)). Continues m z n) w c
  passes m n (e ∷ own) all (others, rest, is, w) c r = let s = continues_split m n others e rest (subst (λ (z : List (Step O)). Continues m z n) is c) in let q = subst (AllByRecursion (IsValidStep T)) is r in let b = all_after (IsValidStep T) others (e ∷ rest) q in
      (record { steps = others; leads = s.0; real = all_before (IsValidStep T) others (e ∷ rest) q }, b.0, passes e.next n own rest w s.1 b.1)

module _ {K O : Type 0} where
  -- no step yet
  pub adds_none : (v : EndState K O) → ExtendsTrace v [] v
  adds_none v = record { first = refl; entries_are = sym (append-nil v.steps); since = []; course_is = sym (append-nil v.course); own = refl; alone = λ whole. refl }

  -- some steps, and then others of an end with the same share
  pub adds_after : (v u w : EndState K O) (xs ys : List (Step O)) → u.member.share ≡ v.member.share → ExtendsTrace v xs u → ExtendsTrace u ys w → ExtendsTrace v (xs ++ ys) w
  adds_after v u w xs ys same a b = record {
    first = b.first ∙ a.first;
    entries_are = b.entries_are ∙ (ap (λ (z : List (Step O)). z ++ ys) a.entries_are ∙ append_assoc v.steps xs ys);
    since = a.since ++ b.since;
    course_is = b.course_is ∙ (ap (λ (z : List (Step O)). z ++ b.since) a.course_is ∙ append_assoc v.course a.since b.since);
    own = weaves_on xs ys a.since b.since a.own b.own;
    alone = λ whole. (λ i. a.alone whole i ++ b.alone (same ∙ whole) i);
  }

module _ {K O : Type 0} (T : ObjectModel O) where
  -- the steps since then are real, and lead from what was seen, if the course led to it, to what is seen
  led_since : (v w : EndState K O) (es : List (Step O)) → Continues (opened v.first) v.course v.seen → IsValidView T w → (a : ExtendsTrace v es w) → Continues v.seen a.since w.seen × AllByRecursion (IsValidStep T) a.since
  led_since v w es x y a = (
    continues_after (opened v.first) v.seen w.seen v.course a.since x (subst (λ (z : List (Step O)). Continues (opened v.first) z w.seen) a.course_is (subst (λ (z : O). Continues (opened z) w.course w.seen) a.first y.leads)),
    all_after (IsValidStep T) v.course a.since (subst (AllByRecursion (IsValidStep T)) a.course_is y.real),
  )

  -- they pass each entry in its order
  pub passes_led : (v w : EndState K O) (es : List (Step O)) → Continues (opened v.first) v.course v.seen → IsValidView T w → ExtendsTrace v es w → Passes T v.seen es w.seen
  passes_led v w es x y a = let s = led_since v w es x y a in passes T v.seen w.seen es a.since a.own s.0 s.1

  pub passes_since : (v w : EndState K O) (es : List (Step O)) → IsValidView T v → IsValidView T w → ExtendsTrace v es w → Passes T v.seen es w.seen
  passes_since v w es x y a = passes_led v w es x.leads y a

  -- the entries after any other steps of the end pass one another in their order
  pub passes_some : (v w : EndState K O) (es : List (Step O)) → IsValidView T w → ExtendsTrace v es w → (m : AbsState O) × Passes T m es w.seen
  passes_some v w es y a = let c : Continues (opened w.first) (v.course ++ a.since) w.seen = subst (λ (z : List (Step O)). Continues (opened w.first) z w.seen) a.course_is y.leads in let m = continues_cut (opened w.first) w.seen v.course a.since c in
      (m.0, passes T m.0 w.seen es a.since a.own m.1 (all_after (IsValidStep T) v.course a.since (subst (AllByRecursion (IsValidStep T)) a.course_is y.real)))

  -- the entries of an end that has the whole are all steps since
  pub alone_led : (v w : EndState K O) (es : List (Step O)) → IsWhole v.member.share → Continues (opened v.first) v.course v.seen → IsValidView T w → ExtendsTrace v es w → Continues v.seen es w.seen × AllByRecursion (IsValidStep T) es
  alone_led v w es whole x y a = let s = led_since v w es x y a in let is = a.alone whole in (subst (λ (z : List (Step O)). Continues v.seen z w.seen) is s.0, subst (AllByRecursion (IsValidStep T)) is s.1)

  pub alone_since : (v w : EndState K O) (es : List (Step O)) → IsWhole v.member.share → IsValidView T v → IsValidView T w → ExtendsTrace v es w → Continues v.seen es w.seen × AllByRecursion (IsValidStep T) es
  alone_since v w es whole x y a = alone_led v w es whole x.leads y a

  pub reaches_since : (v w : EndState K O) (es : List (Step O)) → IsValidView T v → IsValidView T w → ExtendsTrace v es w → Reaches T v.seen w.seen
  reaches_since v w es x y a = let s = led_since v w es x.leads y a in record { steps = a.since; leads = s.0; real = s.1 }

  -- the same, of what an end of the same object had seen whose steps the other has seen too
  pub reaches_led : (u w : EndState K O) → Continues (opened u.first) u.course u.seen → IsValidView T w → w.first ≡ u.first → (b : Begins u.course w.course) → Reaches T u.seen w.seen
  reaches_led u w x y same b = record {
    steps = b.0;
    leads = continues_after (opened u.first) u.seen w.seen u.course b.0 x (subst (λ (z : List (Step O)). Continues (opened u.first) z w.seen) (sym b.1) (subst (λ (z : O). Continues (opened z) w.course w.seen) same y.leads));
    real = all_after (IsValidStep T) u.course b.0 (subst (AllByRecursion (IsValidStep T)) (sym b.1) y.real);
  }

  -- after a join, real steps lead from what either of both had seen
  pub reaches_one : (plus : K → K → K) (word : ℕ) (v u w : EndState K O) → IsValidView T v → IsValidView T w → JoinedBy plus word v u w → Reaches T v.seen w.seen
  reaches_one plus word v u w x y t = reaches_led v w x.leads y t.adds.first t.one

  pub reaches_other : (plus : K → K → K) (word : ℕ) (v u w : EndState K O) → IsValidView T u → IsValidView T w → JoinedBy plus word v u w → Reaches T u.seen w.seen
  reaches_other plus word v u w x y t = reaches_led u w x.leads y (t.adds.first ∙ sym t.one_object) t.other

  -- each entry of a call is real
  pub entries_real : (v w : EndState K O) (es : List (Step O)) → IsValidView T w → ExtendsTrace v es w → AllByRecursion (IsValidStep T) es
  entries_real v w es y a = all_own (IsValidStep T) es a.since a.own (all_after (IsValidStep T) v.course a.since (subst (AllByRecursion (IsValidStep T)) a.course_is y.real))
