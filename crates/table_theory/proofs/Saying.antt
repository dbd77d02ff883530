-- The facts that a real step states of its object, and real steps one after the other.
use Rattle.table_theory.proofs.Common.{◌≡◌, ◌⊎◌, inl, inr, ℕ, List, [], ◌∷◌, ◌++◌, get_or, sym, refl, ap, ◌∙◌, subst, AllByRecursion, AbsState, Continues, ObjectModel, Step, StepEffect, stays, event, more, fewer, IsValidStep, Reaches, Passes}
use Rattle.table_theory.specs.Ledgers.{load}
use Rattle.table_theory.proofs.Reaching.{continues_one, reaches_on}

module _ {O : Type 0} (T : ObjectModel O) where
  -- what holds of the object, and of what one event makes of it, holds after a step
  pub effect_keeps : (P : O → Type 0) (m n : AbsState O) → P m.object → ((o : O) → T.Happens m.object o → P o) → StepEffect T m n → P n.object
  effect_keeps P m n p f (stays e) = subst (λ (z : AbsState O). P z.object) (sym e) p
  effect_keeps P m n p f (event o b e) = subst (λ (z : AbsState O). P z.object) (sym e) (f o b)
  effect_keeps P m n p f (more e) = subst (λ (z : AbsState O). P z.object) (sym e) p
  effect_keeps P m n p f (fewer e some) = subst (λ (z : AbsState O). P z.object) (sym e) p

  -- a step changes nothing, or makes one event
  pub real_change : (e : Step O) → IsValidStep T e → (e.next.object ≡ e.then.object) ⊎ T.Happens e.then.object e.next.object
  real_change e r = effect_keeps (λ o. (o ≡ e.then.object) ⊎ T.Happens e.then.object o) e.then e.next (inl refl) (λ o b. inr b) r.effect

  pub real_lawful : ((o p : O) (words : List ℕ) → T.Shows o words → T.IsLawful o → T.Happens o p → T.IsLawful p) → (e : Step O) → IsValidStep T e → T.IsLawful e.next.object
  real_lawful keeps e r = effect_keeps T.IsLawful e.then e.next r.lawful (λ o b. keeps e.then.object o r.words r.shows r.lawful b) r.effect

  -- the number that it found
  pub at_word : (e : Step O) (word : ℕ) → e.word ≡ word → (r : IsValidStep T e) → e.found ≡ get_or r.words word 0
  at_word e word is r = r.is ∙ ap (λ (z : ℕ). get_or r.words z 0) is

  pub ends_say : (found : ℕ) (m : AbsState O) → IsValidStep T (load T.ends_word found m) → found ≡ m.ends
  ends_say found m r = r.is ∙ r.ends

  -- real steps lead on to an entry, and by it
  pub reaches_next : (m : AbsState O) (e : Step O) → Reaches T m e.then → IsValidStep T e → Reaches T m e.next
  reaches_next m e a r = reaches_on T m e.then e.next a (record { steps = e ∷ []; leads = continues_one e.then e refl; real = (r, tt) })

  pub passes_split : (m n : AbsState O) (xs : List (Step O)) (e : Step O) (ys : List (Step O)) → Passes T m (xs ++ e ∷ ys) n → Reaches T m e.then × IsValidStep T e × Passes T e.next ys n
  passes_split m n [] e ys p = p
  passes_split m n (x ∷ xs) e ys p = let q = passes_split x.next n xs e ys p.2 in (reaches_on T m x.next e.then (reaches_next m x p.0 p.1) q.0, q.1, q.2)

  -- an order of objects in which each event goes on
  module _ (Leads : O → O → Type 0) (here : (o : O) → Leads o o) (on : (o p q : O) → Leads o p → Leads p q → Leads o q) (goes : (o p : O) (words : List ℕ) → T.Shows o words → T.Happens o p → Leads o p) where
    pub real_goes : (e : Step O) → IsValidStep T e → Leads e.then.object e.next.object
    real_goes e r = effect_keeps (Leads e.then.object) e.then e.next (here e.then.object) (λ o b. goes e.then.object o r.words r.shows b) r.effect

    steps_go : (m n : AbsState O) (steps : List (Step O)) → Continues m steps n → AllByRecursion (IsValidStep T) steps → Leads m.object n.object
    steps_go m n [] c r = subst (λ (z : AbsState O). Leads m.object z.object) c (here m.object)
    steps_go m n (e ∷ steps) c r = on m.object e.next.object n.object (subst (λ (z : AbsState O). Leads z.object e.next.object) (sym c.0) (real_goes e r.0)) (steps_go e.next n steps c.1 r.1)

    pub reaches_go : (m n : AbsState O) → Reaches T m n → Leads m.object n.object
    reaches_go m n r = steps_go m n r.steps r.leads r.real

    -- so do real steps to each entry, and on to the end
    pub passes_go : (m n : AbsState O) (entries : List (Step O)) → Passes T m entries n → Leads m.object n.object
    passes_go m n [] p = subst (λ (z : AbsState O). Leads m.object z.object) p (here m.object)
    passes_go m n (e ∷ entries) p = on m.object e.then.object n.object (reaches_go m e.then p.0) (on e.then.object e.next.object n.object (real_goes e p.1) (passes_go e.next n entries p.2))
