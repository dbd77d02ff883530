-- Stretches in order stay in order if another one comes after them.
use Rattle.table_theory.proofs.Common.{◌≡◌, ℕ, ◌+◌, ◌<◌, ◌≤◌, ⊎_elim, List, [], ◌∷◌, ◌++◌, length, sym, ap, arith, some, some-ne-none, get_elem?, Batch}
use Rattle.table_theory.specs.Interleaving.{InOrder}
use Rattle.table_theory.proofs.Owned.{at_below, at_push}

pub order_none : InOrder []
order_none = ((λ i j e f at is low. absurd (some-ne-none e (sym at))), (λ m e at. absurd (some-ne-none e (sym at))))

-- a stretch more, at or past the end of each
pub order_push : (l : List Batch) (b : Batch) → InOrder l → ((m : ℕ) (e : Batch) → get_elem? l m ≡ some e → e.start + length e.places ≤ b.start) → 0 < length b.places → InOrder (l ++ b ∷ [])
order_push l b up past some_place = (
  (λ i j e f at is low. ⊎_elim
      (λ old. ⊎_elim
      (λ old'. up.0 i j e f old old' low)
      (λ new'. let p = past i e old in let s = up.1 i e old in let n : b.start ≡ f.start = ap (λ (z : Batch). z.start) new'.1 in omega arith)
      (at_push l b f j is))
      (λ new. ⊎_elim
      (λ old'. let k = at_below l j f old' in let n = new.0 in absurd (omega arith))
      (λ new'. let n = new.0 in let n' = new'.0 in absurd (omega arith))
      (at_push l b f j is))
      (at_push l b e i at)),
  (λ m e at. ⊎_elim (λ old. up.1 m e old) (λ new. let n : length b.places ≡ length e.places = ap (λ (z : Batch). length z.places) new.1 in omega arith) (at_push l b e m at)),
)
