-- An item that an end took is one that an end put.
use Rattle.table_theory.proofs.Common.{◌≡◌, ℕ, zero, suc, ◌+◌, ◌<◌, ◌≤◌, List, [], ◌∷◌, length, take, get_or, sym, ap, ◌∙◌, subst, arith, some, some-injective, some-ne-none, get_elem?, at_map, Batch, Cell, Positions, QueueView, PartsShow, blank, item_of}
use Rattle.std.proofs.lemmas.List.{get_or-take}
use Rattle.table_theory.specs.Batches.{line_of}
use Rattle.table_theory.specs.Listing.{runs_of, takes_of}
use Rattle.table_theory.proofs.Alone.{there_is}
use Rattle.table_theory.proofs.Histories.{locate}
use Rattle.table_theory.proofs.Logs.{lies}
use Rattle.table_theory.proofs.Owned.{at_below, at_map_back}

-- the item is in this run of this part
pub record Putter (parts : List QueueView) (item : ℕ) : Type 0 where
  pub call : ℕ
  pub part : QueueView
  pub here : get_elem? parts call ≡ some part
  pub number : ℕ
  pub run : Batch
  pub has : get_elem? part.runs number ≡ some run
  pub index : ℕ
  pub is_item : get_elem? (line_of run) index ≡ some item

at_or : (l : List Cell) (i : ℕ) (x : Cell) → get_elem? l i ≡ some x → get_or l i blank ≡ x
at_or [] i x e = absurd (some-ne-none x (sym e))
at_or (c ∷ cs) zero x e = some-injective c x e
at_or (c ∷ cs) (suc i) x e = at_or cs i x e

below_take : (n : ℕ) (l : List Cell) (p : ℕ) → p < length (take n l) → (p < n) × (p < length l)
below_take zero [] p h = absurd (omega arith)
below_take zero (c ∷ cs) p h = absurd (omega arith)
below_take (suc n) [] p h = absurd (omega arith)
below_take (suc n) (c ∷ cs) zero h = (omega arith, omega arith)
below_take (suc n) (c ∷ cs) (suc p) h = let b = below_take n cs p (omega arith) in let x = b.0 in let y = b.1 in (omega arith, omega arith)

pub putter : (q : Positions) (parts : List QueueView) (j m i item : ℕ) (v : QueueView) (e : Batch) → PartsShow q parts → get_elem? parts j ≡ some v → get_elem? v.takes m ≡ some e → get_elem? (line_of e) i ≡ some item → Putter parts item
putter q parts j m i item v e l at has is = let t = l.takes_are.filed.listed j v.takes m e (at_map takes_of parts j v at) has in let s = lies q.first l.takes t.0 (j, m, e) l.takes_are.adjacent t.1 in
    let c = at_map_back item_of e.places i item is in let in_line : i < length e.places = at_below e.places i c.0 c.1 in let p : ℕ = s.at + i in
    let within : s.at + length e.places ≤ length (take q.taken q.places) = subst (λ (z : List Cell). s.at + length e.places ≤ length z) l.takes_are.flat s.within in
    let b = below_take q.taken q.places p (omega arith) in let r = locate q.first l.runs p l.runs_are.adjacent (subst (λ (z : List Cell). p < length z) (sym l.runs_are.flat) b.1) in
    let st = l.runs_are.filed.stands r.number r.run r.has in let u = at_map_back runs_of parts r.run.0 st.0 st.1 in let x = there_is r.run.2.places r.index r.below in
    let same : x.0 ≡ c.0 = sym (at_or r.run.2.places r.index x.0 x.1) ∙ (r.same ∙ (ap (λ (z : List Cell). get_or z p blank) l.runs_are.flat ∙ (sym (get_or-take q.taken q.places p blank b.0)
    ∙ (ap (λ (z : List Cell). get_or z p blank) (sym l.takes_are.flat) ∙ (s.same i in_line ∙ at_or e.places i c.0 c.1))))) in record {
      call = r.run.0;
      part = u.0;
      here = u.1;
      number = r.run.1;
      run = r.run.2;
      has = subst (λ (z : List Batch). get_elem? z r.run.1 ≡ some r.run.2) (sym u.2) st.2;
      index = r.index;
      is_item = at_map item_of r.run.2.places r.index x.0 x.1 ∙ ap some (ap item_of same ∙ c.2);
    }
