-- A rule with a condition on each view: what a step, a split and a join owe for it.
use Rattle.table_theory.proofs.Common.{◌≡◌, ℕ, zero, suc, List, [], ◌∷◌, get_or, set, sym, ◌∙◌, subst, ⊎_elim, some, some-injective, some-ne-none, get_elem?, at_set, set_here, set_else}
use Rattle.atomic_table.specs.Table.{State, Me, stepped, carried_after, Allows, Splits, Joins, opening}
use Rattle.atomic_table.proofs.Lists.{at_snoc}
use Rattle.table_theory.specs.Protocols.{HoldsWith}
use Rattle.table_theory.proofs.Owned.{at_below}

module _ {S V : Type 0} (Holds : State S V → Type 0) (Keeps : V → Type 0) where
  -- each view keeps to it if the one that changed does
  keeps_set : (views : List V) (id : ℕ) (w : V) → ((j : ℕ) (v : V) → get_elem? views j ≡ some v → Keeps v) → Keeps w → (j : ℕ) (v : V) → get_elem? (set views id w) j ≡ some v → Keeps v
  keeps_set views id w all new j v here = ⊎_elim (λ e. subst Keeps e.1 new) (λ e. all j v e.1) (at_set views id j w v here)

  pub allows_with : (n id : ℕ) (me : Me S V) (i : ℕ) (f : ℕ → ℕ) (then then' : ℕ → Me S V → Type 0) → Allows Holds n id me i f then → ((r : ℕ) (m : Me S V) → then r m → Keeps me.0 → Keeps m.0)
      → ((r : ℕ) (m : Me S V) → then r m → (s : State S V) → HoldsWith Holds Keeps s → get_elem? s.views id ≡ some m.0 → then' r m) → Allows (HoldsWith Holds Keeps) n id me i f then'
  allows_with n id me i f then then' a keep reports s h long at bounded = let x = a s h.rule long at bounded in let w : V = x.0 in let r : ℕ = get_or s.words i 0 in
      let h' : HoldsWith Holds Keeps (stepped s i (f r) id me.1 w x.1) = record { rule = x.3; keeps = keeps_set s.views id w h.keeps (keep r (w, carried_after me.1 x.1) x.4 (h.keeps id me.0 at)) } in
      (w, x.1, x.2, h', reports r (w, carried_after me.1 x.1) x.4 (stepped s i (f r) id me.1 w x.1) h' (set_here s.views id w (at_below s.views id me.0 at)))

  pub splits_with : (id : ℕ) (v left right : V) → Splits Holds id v left right → (Keeps v → Keeps left) → (Keeps v → Keeps right) → Splits (HoldsWith Holds Keeps) id v left right
  splits_with id v left right a keep_left keep_right s h at = let k = h.keeps id v at in record {
    rule = a s h.rule at;
    keeps = λ j u here. ⊎_elim (λ old. keeps_set s.views id left h.keeps (keep_left k) j u old) (λ new. subst Keeps new (keep_right k)) (at_snoc (set s.views id left) right u j here);
  }

  pub joins_with : (id other : ℕ) (v w both spent : V) → Joins Holds id v other w both spent
      → ((s : State S V) → Holds s → get_elem? s.views id ≡ some v → get_elem? s.views other ≡ some w → Keeps v → Keeps w → Keeps both) → (Keeps v → Keeps spent) → Joins (HoldsWith Holds Keeps) id v other w both spent
  joins_with id other v w both spent a keep empty s h at ne has = let there : get_elem? s.views other ≡ some w = sym (set_else s.views id other both ne) ∙ has in let k = h.keeps id v at in record {
    rule = a s h.rule at ne has;
    keeps = keeps_set (set s.views id both) other spent (keeps_set s.views id both h.keeps (keep s h.rule at there k (h.keeps other w there))) (empty k);
  }

  -- the table as it is made
  pub opens_with : (words : List ℕ) (xs : List S) (v : V) → Holds (opening words xs v) → Keeps v → HoldsWith Holds Keeps (opening words xs v)
  opens_with words xs v h k = record { rule = h; keeps = one }
    where
      one : (j : ℕ) (u : V) → get_elem? (v ∷ []) j ≡ some u → Keeps u
      one zero u here = subst Keeps (some-injective v u here) k
      one (suc j) u here = absurd (some-ne-none u (sym here))
