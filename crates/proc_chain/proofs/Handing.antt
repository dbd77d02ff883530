-- An end hands over all that it knows, except the slot: a new end goes on, and the old end is spent.
use Rattle.proc_chain.proofs.Common.{◌≡◌, ◌≢◌, ◌⊎◌, inl, inr, ⊎_elim, ℕ, ◌<◌, false, true, true≢false, List, [], ◌∷◌, ◌++◌, map, length, set, sym, refl, ap, ◌∙◌, subst, arith, length-set, map-set, map-append, some, dite, ℕ_discrete, get_elem?, Splits, at_map, at_set, set_else, at_last, at_longer, Positions, QueueView, emptied, ViewsShow, listed_new, listed_join, at_push, at_below, one_at, Shape, first_queue, View, nothing_did, of_chains, part_of, GateShows, Rule}
use Rattle.table_theory.proofs.Moving.{in_place, true_moved}
use Rattle.proc_chain.proofs.Gates.{gated_as}

-- each view of the new list is the spent one, an old one, or the one that moved
module _ (views : List View) (id : ℕ) (v e : View) (at : get_elem? views id ≡ some v) where
  abbrev new : List View
  new = set views id e ++ v ∷ []

  last_at : get_elem? new (length views) ≡ some v
  last_at = at_last (set views id e) v (length views) (length-set views id e)

  pub moved_to : (i : ℕ) (u : View) → get_elem? views i ≡ some u → (j : ℕ) × (get_elem? new j ≡ some u)
  moved_to i u has = dite (ℕ_discrete i id)
      (λ y. (length views, subst (λ (z : View). get_elem? new (length views) ≡ some z) (one_at views id v u at (subst (λ (z : ℕ). get_elem? views z ≡ some u) y has)) last_at))
      (λ no. (i, at_longer (set views id e) (v ∷ []) i u (set_else views id i e no ∙ has)))

  -- a view that is not the spent one, with its old number
  abbrev Was : ℕ → View → Type 0
  Was j u = (i : ℕ) × (get_elem? views i ≡ some u) × (((i ≡ id) × (j ≡ length views)) ⊎ ((i ≢ id) × (j ≡ i)))

  pub moved_from : (j : ℕ) (u : View) → get_elem? new j ≡ some u → (e ≡ u) ⊎ Was j u
  moved_from j u has = ⊎_elim
      (λ old. ⊎_elim (λ t. inl t.1) (λ t. inr (j, t.1, inr (t.0, refl))) (at_set views id j e u old))
      (λ t. inr (id, subst (λ (z : View). get_elem? views id ≡ some z) t.1 at, inl (refl, t.0 ∙ length-set views id e)))
      (at_push (set views id e) v u j has)

  one_place : (i j : ℕ) (u w : View) (a : Was i u) (b : Was j w) → a.0 ≡ b.0 → i ≡ j
  one_place i j u w a b same = ⊎_elim
      (λ x. ⊎_elim (λ y. x.1 ∙ sym y.1) (λ y. absurd (y.0 (sym same ∙ x.0))) b.2)
      (λ x. ⊎_elim (λ y. absurd (x.0 (same ∙ y.0))) (λ y. x.1 ∙ (same ∙ sym y.1)) b.2)
      a.2

  gated_moved : (q : Positions) (gate : ℕ) → GateShows q gate views → e.own.runner ≡ false → GateShows q gate new
  gated_moved q gate g down = let was = λ (j : ℕ) (u : View) (has : get_elem? new j ≡ some u) (up : u.own.runner ≡ true). ⊎_elim {C = Was j u} (λ t. absurd (true≢false (sym up ∙ (ap (λ (z : View). z.own.runner) (sym t) ∙ down)))) (λ t. t) (moved_from j u has) in
      gated_as q gate views new g moved_to (λ j u has up. let a = was j u has up in (a.0, a.1)) (λ i j x y has has' up up' same. one_place i j x y (was i x has up) (was j y has' up') same)

  pub undoubled_moved : ((j : ℕ) (u : View) → get_elem? views j ≡ some u → u.own.doubled ≡ false) → e.own.doubled ≡ false → (j : ℕ) (u : View) → get_elem? new j ≡ some u → u.own.doubled ≡ false
  undoubled_moved old mine j u has = ⊎_elim (λ t. ap (λ (z : View). z.own.doubled) (sym t) ∙ mine) (λ t. old t.0 u t.1) (moved_from j u has)

module _ {Q W : Type 0} (made : W → Q → List ℕ → Type 0) (fits : W → Q → Type 0) (key : Shape W) where
  pub hands_over : (id : ℕ) (v : View) → Splits (Rule made fits key) id v (emptied nothing_did v) v
  hands_over id v s k at = let e : View = emptied nothing_did v in let q : Positions = k.now.object.queue in let parts : List QueueView = map part_of s.views in let at_part = at_map part_of s.views id v at in let below' : id < length parts = at_below parts id (part_of v) at_part in
      let later = k.listed.seen id (part_of v) at_part in record {
        now = k.now;
        stands = record { lawful = k.stands.lawful; shows = k.stands.shows; number = k.stands.number; true_ends = true_moved of_chains nothing_did (first_queue key.first) k.now s.views id v k.stands.true_ends at };
        first = k.first;
        listed = subst (ViewsShow q) (in_place parts (part_of e) (part_of v) (part_of e) id below' ∙ sym (map-append part_of (set s.views id e) (v ∷ []) ∙ ap (λ (z : List QueueView). z ++ part_of v ∷ []) (map-set part_of s.views id e)))
            (listed_join q (parts ++ part_of e ∷ []) (length parts) id (part_of e) (part_of v) (part_of v) (part_of e) (listed_new q parts (part_of e) k.listed refl refl later) (at_last parts (part_of e) (length parts) refl) (at_longer parts (part_of e ∷ []) id (part_of v) at_part) (λ z. omega arith) refl refl refl refl later later);
        gate = gated_moved s.views id v e at q k.now.object.gate k.gate refl;
        slot = k.slot;
        undoubled = undoubled_moved s.views id v e at k.undoubled refl;
      }
