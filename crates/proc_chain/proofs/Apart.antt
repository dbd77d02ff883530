-- No position is in two runs of one queue, or in two takings.
use Rattle.proc_chain.proofs.Common.{◌≡◌, ℕ, zero, suc, ◌+◌, List, [], ◌∷◌, ◌++◌, map, length, ap, subst, sym, refl, arith, some, get_elem?, at_map, at_longer, at_below, one_at, Batch, Owned, Adjacent, runs_of, AreShown, part_of, View, Cell, IsValidChainView, GatedQueue}
use Rattle.std.specs.Prelude.{take}
use mathlib.Core.Option.{some-ne-none}
use Rattle.table_theory.specs.Listing.{IsListed, takes_of}
use Rattle.table_theory.proofs.Logs.{starts_past}
use Rattle.table_theory.proofs.Owned.{at_after}
use Rattle.proc_chain.specs.Endings.{IsAmong, JoinedBy}

one_position : (p x : ℕ) (log : List (Owned Batch)) (k j : ℕ) (o r : Owned Batch) → Adjacent p log → get_elem? log k ≡ some o → get_elem? log j ≡ some r → IsAmong x o.2 → IsAmong x r.2 → k ≡ j
one_position p x [] k j o r c e d h i = absurd (some-ne-none o (sym e))
one_position p x (y ∷ ys) zero zero o r c e d h i = refl
one_position p x (y ∷ ys) zero (suc j) o r c e d h i = let past = starts_past (p + length y.2.places) ys j r c.1 d in let same : y ≡ o = one_at (y ∷ ys) 0 y o refl e in let b : y.2.start + length y.2.places ≡ o.2.start + length o.2.places = ap (λ (z : Owned Batch). z.2.start + length z.2.places) same in let first = c.0 in let below = h.1 in let from = i.0 in absurd (omega arith)
one_position p x (y ∷ ys) (suc k) zero o r c e d h i = let past = starts_past (p + length y.2.places) ys k o c.1 e in let same : y ≡ r = one_at (y ∷ ys) 0 y r refl d in let b : y.2.start + length y.2.places ≡ r.2.start + length r.2.places = ap (λ (z : Owned Batch). z.2.start + length z.2.places) same in let first = c.0 in let below = i.1 in let from = h.0 in absurd (omega arith)
one_position p x (y ∷ ys) (suc k) (suc j) o r c e d h i = ap suc (one_position (p + length y.2.places) x ys k j o r c.1 e d h i)

-- two entries with one position are one entry of one list
one_entry : (first x : ℕ) (places : List Cell) (log : List (Owned Batch)) (lists : List (List Batch)) (c d m n : ℕ) (l r : List Batch) (a b : Batch) → IsListed first places log lists → get_elem? lists c ≡ some l → get_elem? lists d ≡ some r → get_elem? l m ≡ some a → get_elem? r n ≡ some b → IsAmong x a → IsAmong x b → (c ≡ d) × (m ≡ n)
one_entry first x places log lists c d m n l r a b h at at' has has' in_a in_b = let s = h.filed.listed c l m a at has in let t = h.filed.listed d r n b at' has' in
    let same = one_position first x log s.0 t.0 (c, m, a) (d, n, b) h.adjacent s.1 t.1 in_a in_b in
    let o = one_at log t.0 (c, m, a) (d, n, b) (subst (λ (z : ℕ). get_elem? log z ≡ some (c, m, a)) same s.1) t.1 in
    (ap (λ (z : Owned Batch). z.0) o, ap (λ (z : Owned Batch). z.1) o)

module _ (o : GatedQueue) (views : List View) (shown : AreShown o views) (x : ℕ) where
  module _ (c d m n : ℕ) (u v : View) (a b : Batch) (at : get_elem? views c ≡ some u) (at' : get_elem? views d ≡ some v) where
    pub one_run : get_elem? u.own.runs m ≡ some a → get_elem? v.own.runs n ≡ some b → IsAmong x a → IsAmong x b → (c ≡ d) × (m ≡ n)
    one_run has has' in_a in_b = let l = shown.listed.lists in one_entry o.queue.first x o.queue.places l.runs (map runs_of (map part_of views)) c d m n u.own.runs v.own.runs a b l.runs_are (at_map runs_of (map part_of views) c (part_of u) (at_map part_of views c u at)) (at_map runs_of (map part_of views) d (part_of v) (at_map part_of views d v at')) has has' in_a in_b

    pub one_take : get_elem? u.own.takes m ≡ some a → get_elem? v.own.takes n ≡ some b → IsAmong x a → IsAmong x b → (c ≡ d) × (m ≡ n)
    one_take has has' in_a in_b = let l = shown.listed.lists in one_entry o.queue.first x (take o.queue.taken o.queue.places) l.takes (map takes_of (map part_of views)) c d m n u.own.takes v.own.takes a b l.takes_are (at_map takes_of (map part_of views) c (part_of u) (at_map part_of views c u at)) (at_map takes_of (map part_of views) d (part_of v) (at_map part_of views d v at')) has has' in_a in_b

-- what two ends had that are one now
module _ (v u w : View) (t : JoinedBy v u w) (valid : IsValidChainView w) (x i j : ℕ) (a b : Batch) where
  pub joined_runs : get_elem? v.own.runs i ≡ some a → get_elem? u.own.runs j ≡ some b → IsAmong x a → IsAmong x b → ⊥
  joined_runs has has' in_a in_b = let is : w.own.runs ≡ v.own.runs ++ u.own.runs = (λ k. (t.0.own k).runs) in
      let one = one_run w.seen.object valid.views valid.shown x valid.seat valid.seat i (length v.own.runs + j) w w a b valid.here valid.here
      (subst (λ (z : List Batch). get_elem? z i ≡ some a) (sym is) (at_longer v.own.runs u.own.runs i a has)) (subst (λ (z : List Batch). get_elem? z (length v.own.runs + j) ≡ some b) (sym is) (at_after v.own.runs u.own.runs j b has')) in_a in_b in
      let below = at_below v.own.runs i a has in let same = one.1 in omega arith

  pub joined_takes : get_elem? v.own.takes i ≡ some a → get_elem? u.own.takes j ≡ some b → IsAmong x a → IsAmong x b → ⊥
  joined_takes has has' in_a in_b = let is : w.own.takes ≡ v.own.takes ++ u.own.takes = (λ k. (t.0.own k).takes) in
      let one = one_take w.seen.object valid.views valid.shown x valid.seat valid.seat i (length v.own.takes + j) w w a b valid.here valid.here
      (subst (λ (z : List Batch). get_elem? z i ≡ some a) (sym is) (at_longer v.own.takes u.own.takes i a has)) (subst (λ (z : List Batch). get_elem? z (length v.own.takes + j) ≡ some b) (sym is) (at_after v.own.takes u.own.takes j b has')) in_a in_b in
      let below = at_below v.own.takes i a has in let same = one.1 in omega arith
