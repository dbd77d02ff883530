-- Moments of a call, as seen from a longer call.
use Rattle.table_theory.proofs.Common.{◌≡◌, ◌≤◌, ◌+◌, ℕ, List, [], ◌∷◌, ◌++◌, length, length-append, arith, sym, ap, ◌∙◌, subst, append_assoc}
use Rattle.table_theory.proofs.Reaching.{adds_after}
use Rattle.table_theory.specs.Ledgers.{Step, load, ExtendsTrace, Performed, WereOpen}
use Rattle.table_theory.specs.Moments.{AtSomeMoment, AtTwoMoments, StepsAtMost, WhyNotClosed}
use Rattle.table_theory.specs.declared.views.EndState.{EndState}
use Rattle.table_theory.specs.declared.views.Part.{Part}

module _ {K O : Type 0} where
  -- so many steps were added
  pub steps_by : (n : ℕ) (v w : EndState K O) (es : List (Step O)) → ExtendsTrace v es w → length es ≤ n → StepsAtMost n v w
  steps_by n v w es a few = let all = ap length a.entries_are in let long = length-append v.steps es in omega arith

  pub why_open : (word others : ℕ) (v w : EndState K O) → WereOpen word v others w → WhyNotClosed others v w
  why_open word others v w o = record { some_other = o.some_other; not_whole = o.not_whole; before = []; step = load word (others + 1) o.tallied.found; after = []; adds = o.tallied.made.adds; number = sym o.tallied.is }

  pub moment_map : (v w : EndState K O) (P Q : O → Type 0) → ((o : O) → P o → Q o) → AtSomeMoment v w P → AtSomeMoment v w Q
  moment_map v w P Q f s = record { before = s.before; step = s.step; after = s.after; adds = s.adds; holds = f s.step.then.object s.holds }

  -- the end's last step found it so
  pub moment_now : (v w : EndState K O) (e : Step O) (own : K) (P : O → Type 0) → Performed v (e ∷ []) own w → P e.then.object → AtSomeMoment v w P
  moment_now v w e own P m h = record { before = []; step = e; after = []; adds = m.adds; holds = h }

  -- other steps came before it
  pub moment_after : (v u w : EndState K O) (xs : List (Step O)) (P : O → Type 0) → u.member.share ≡ v.member.share → ExtendsTrace v xs u → AtSomeMoment u w P → AtSomeMoment v w P
  moment_after v u w xs P share a s = record {
    before = xs ++ s.before;
    step = s.step;
    after = s.after;
    adds = subst (λ (z : List (Step O)). ExtendsTrace v z w) (sym (append_assoc xs s.before (s.step ∷ s.after))) (adds_after v u w xs (s.before ++ s.step ∷ s.after) share a s.adds);
    holds = s.holds;
  }

  -- other steps came after it
  pub moment_then : (v u w : EndState K O) (ys : List (Step O)) (P : O → Type 0) → u.member.share ≡ v.member.share → AtSomeMoment v u P → ExtendsTrace u ys w → AtSomeMoment v w P
  moment_then v u w ys P share s a = record {
    before = s.before;
    step = s.step;
    after = s.after ++ ys;
    adds = subst (λ (z : List (Step O)). ExtendsTrace v z w) (append_assoc s.before (s.step ∷ s.after) ys) (adds_after v u w (s.before ++ s.step ∷ s.after) ys share s.adds a);
    holds = s.holds;
  }

  pub two_map : (v w : EndState K O) (P Q : O → O → Type 0) → ((o later : O) → P o later → Q o later) → AtTwoMoments v w P → AtTwoMoments v w Q
  two_map v w P Q f s = record { before = s.before; first = s.first; between = s.between; second = s.second; after = s.after; adds = s.adds; holds = f s.first.then.object s.second.then.object s.holds }

  pub two_after : (v u w : EndState K O) (xs : List (Step O)) (P : O → O → Type 0) → u.member.share ≡ v.member.share → ExtendsTrace v xs u → AtTwoMoments u w P → AtTwoMoments v w P
  two_after v u w xs P share a s = record {
    before = xs ++ s.before;
    first = s.first;
    between = s.between;
    second = s.second;
    after = s.after;
    adds = subst (λ (z : List (Step O)). ExtendsTrace v z w) (sym (append_assoc xs s.before (s.first ∷ (s.between ++ s.second ∷ s.after)))) (adds_after v u w xs (s.before ++ s.first ∷ (s.between ++ s.second ∷ s.after)) share a s.adds);
    holds = s.holds;
  }

  pub two_then : (v u w : EndState K O) (ys : List (Step O)) (P : O → O → Type 0) → u.member.share ≡ v.member.share → AtTwoMoments v u P → ExtendsTrace u ys w → AtTwoMoments v w P
  two_then v u w ys P share s a = record {
    before = s.before;
    first = s.first;
    between = s.between;
    second = s.second;
    after = s.after ++ ys;
    adds = subst (λ (z : List (Step O)). ExtendsTrace v z w)
        (append_assoc s.before (s.first ∷ (s.between ++ s.second ∷ s.after)) ys ∙ ap (λ (z : List (Step O)). s.before ++ s.first ∷ z) (append_assoc s.between (s.second ∷ s.after) ys))
        (adds_after v u w (s.before ++ s.first ∷ (s.between ++ s.second ∷ s.after)) ys share s.adds a);
    holds = s.holds;
  }

  -- a moment of the first steps, and one of the steps after them
  pub two_of : (v u w : EndState K O) (P Q : O → Type 0) (R : O → O → Type 0) → u.member.share ≡ v.member.share → ((o later : O) → P o → Q later → R o later) → AtSomeMoment v u P → AtSomeMoment u w Q → AtTwoMoments v w R
  two_of v u w P Q R share f a b = record {
    before = a.before;
    first = a.step;
    between = a.after ++ b.before;
    second = b.step;
    after = b.after;
    adds = subst (λ (z : List (Step O)). ExtendsTrace v z w)
        (append_assoc a.before (a.step ∷ a.after) (b.before ++ b.step ∷ b.after) ∙ ap (λ (z : List (Step O)). a.before ++ a.step ∷ z) (sym (append_assoc a.after b.before (b.step ∷ b.after))))
        (adds_after v u w (a.before ++ a.step ∷ a.after) (b.before ++ b.step ∷ b.after) share a.adds b.adds);
    holds = f a.step.then.object b.step.then.object a.holds b.holds;
  }

  -- the end's step found it so, and a moment after it so
  pub two_by : (v u w : EndState K O) (e : Step O) (own : K) (P : O → O → Type 0) → Performed v (e ∷ []) own u → (s : AtSomeMoment u w (λ o. P e.then.object o)) → AtTwoMoments v w P
  two_by v u w e own P m s = record {
    before = [];
    first = e;
    between = s.before;
    second = s.step;
    after = s.after;
    adds = adds_after v u w (e ∷ []) (s.before ++ s.step ∷ s.after) (ap (λ (z : Part). z.share) m.member) m.adds s.adds;
    holds = s.holds;
  }
