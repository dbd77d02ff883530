-- The views of a new end, of the two ends of a split, and of an end that took in another.
use Rattle.proc_chain.proofs.Common.{◌≡◌, ℕ, ◌+◌, ◌-◌, ◌<◌, Bool, true, false, ◌||◌, ◌&&◌, true≢false, zero, suc, List, [], ◌∷◌, ◌++◌, length, set, sym, refl, ap, ◌∙◌, subst, arith, props, ∥∥₁_elim, some, some-ne-none, get_elem?, set_here, at_last, Batch, Part, rest_without, newborn_with, both, AllRaised, head_of, at_below, reaches_one, ChainOps, ends_word, View, nothing_did, did_both, of_chains, queue_of, view_from, IsValidChainView, Rests, Meets, KeepsTaken, GatedQueue, IsLawful, AreShown, notes_of}
use Rattle.table_theory.specs.Ledgers.{IsValidView, CountedUp, CountedDown}
use Rattle.table_theory.specs.Ledgers as ends
use Rattle.table_theory.proofs.Parting.{took_in}
use Rattle.proc_chain.specs.Endings.{JoinedBy}
use Rattle.proc_chain.proofs.Becoming.{reaches_grow}
use Rattle.proc_chain.proofs.Gates.{notes_same}
use Rattle.proc_chain.proofs.Finding.{rests_on, reported_after}
use Rattle.proc_chain.proofs.Tallying.{rest_shown, newborn_shown, first_reported}

-- no run of none
pub none_raised : AllRaised []
none_raised m e has = absurd (some-ne-none e (sym has))

-- an end that knows of nothing done
pub of_newcomer : (first : ℕ) (v : View) → v ≡ view_from first → first < 4294967296 → Rests v × IsValidChainView v
of_newcomer first v is bounded = subst (λ (z : View). Rests z × IsValidChainView z) (sym is) (record { one = refl; raised = none_raised; settled = refl }, first_reported first bounded)

-- the view of an end that was v, after it was split or took in another
pub record Parted (v w : View) : Type 0 where
  pub rests : Rests w
  pub valid : IsValidChainView w
  pub notes : v.own.runner ≡ true → notes_of (queue_of w) ≡ notes_of (queue_of v)
  pub taken : KeepsTaken v w
  pub runner : w.own.runner ≡ v.own.runner

-- an end that was counted once more, and gave a part away
module _ (v u : View) (c : CountedUp ends_word v u) (m : Meets v u.seen.object) (h : IsValidChainView u) where
  one_less : v.member.ends + 1 - 1 ≡ v.member.ends
  one_less = omega arith

  -- views of all ends then, one of which has seen what the end had seen
  told_by : (w : View) (views : List View) (seat : ℕ) → w.seen.object ≡ u.seen.object → IsValidView of_chains w → AreShown u.seen.object views → get_elem? views seat ≡ some w → IsValidChainView w
  told_by w views seat same honest shown here = let P : GatedQueue → Type 0 = λ o. IsLawful o × (o.queue.room ≡ 32) × (head_of o.queue < 4294967296) × AreShown o views in
      let p : P w.seen.object = subst P (sym same) (h.lawful, h.room, h.bounded, shown) in record { honest = honest; lawful = p.0; room = p.1; bounded = p.2; views = views; shown = p.3; seat = seat; here = here }

  pub split_parted : (w : View) (parts : ℕ) → w ≡ rest_without parts u → Rests v → ∥ IsValidChainView v ∥₁ → Parted v w
  split_parted w parts is r x = let left : View = rest_without parts u in subst (Parted v) (sym is) record {
    rests = rests_on v left ((λ i. (c.member i).ends - 1) ∙ one_less) (λ i. (c.own i).runs) (λ i. (c.own i).owes) r;
    valid = told_by left (set h.views h.seat left) h.seat refl (record { leads = h.honest.leads; real = h.honest.real; own = h.honest.own }) (rest_shown u.seen.object h.views h.seat u parts h.shown h.here) (set_here h.views h.seat left (at_below h.views h.seat u h.here));
    notes = λ runs. notes_same (queue_of v) (queue_of u) m.grows (m.turn runs) (reported_after v x);
    taken = m.turn;
    runner = λ i. (c.own i).runner;
  }

  -- the new end
  pub born_known : (w : View) (parts : ℕ) → w ≡ newborn_with parts nothing_did u → Rests w × IsValidChainView w
  born_known w parts is = let left : View = rest_without parts u in let born : View = newborn_with parts nothing_did u in subst (λ (z : View). Rests z × IsValidChainView z) (sym is)
      (record { one = refl; raised = none_raised; settled = refl }, told_by born (set h.views h.seat left ++ born ∷ []) (length (set h.views h.seat left)) refl (record { leads = h.honest.leads; real = h.honest.real; own = tt }) (newborn_shown u.seen.object h.views h.seat u parts h.shown h.here) (at_last (set h.views h.seat left) born (length (set h.views h.seat left)) refl))

-- the end that took in another, and was counted down
module _ (v u b w : View) (is : b ≡ both did_both v u) (d : CountedDown ends_word b w) (m : Meets b w.seen.object) (r : Rests v) (r' : Rests u) where
  took : ends.JoinedBy did_both ends_word v u w
  took = took_in nothing_did did_both ends_word v u b w r.one r'.one is d

  pub took_now : b.own.doubled ≡ false → JoinedBy v u w
  took_now undoubled = (took, no_mark (v.own.doubled || u.own.doubled) (v.own.runner && u.own.runner) (ap (λ (z : View). z.own.doubled) (sym is) ∙ undoubled))
    where
      no_mark : (p q : Bool) → (p || q) ≡ false → q ≡ false
      no_mark true q e = absurd (true≢false e)
      no_mark false q e = e

  pub took_parted : ∥ IsValidChainView v ∥₁ → IsValidChainView w → Parted v w
  took_parted x h = record {
    rests = record { one = ap (λ (z : Part). z.ends) took.member; raised = subst AllRaised (sym (ap (λ (z : ChainOps). z.runs) took.own)) (all_append v.own.runs u.own.runs r.raised r'.raised); settled = (λ i. (took.own i).owes) ∙ r.settled };
    valid = h;
    notes = λ runs. ∥∥₁_elim x (search props) (λ (y : IsValidChainView v). notes_same (queue_of v) (queue_of w) (reaches_grow v.seen w.seen (reaches_one of_chains did_both ends_word v u w y.honest h.honest took)) (taken runs) y.lawful.0.taken_within);
    taken = taken;
    runner = λ i. (took.own i).runner;
  }
    where
      taken : KeepsTaken v w
      taken runs = m.count ((λ i. (is i).own.runner) ∙ runs) ∙ ((λ i. (is i).own.taken) ∙ ∥∥₁_elim x (search props) (λ (y : IsValidChainView v). y.shown.gate.counts y.seat v y.here runs))

      all_append : (l m : List Batch) → AllRaised l → AllRaised m → AllRaised (l ++ m)
      all_append [] m a b k e has = b k e has
      all_append (x ∷ xs) m a b zero e has = a zero e has
      all_append (x ∷ xs) m a b (suc k) e has = all_append xs m (λ i. a (suc i)) b k e has
