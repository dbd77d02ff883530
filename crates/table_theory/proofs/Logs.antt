-- A log of stretches, each of which starts where the one before it ends.
use Rattle.table_theory.proofs.Common.{◌≡◌, ℕ, suc, zero, ◌+◌, ◌<◌, ◌≤◌, Bool, true, false, List, [], ◌∷◌, ◌++◌, map, length, get_or, set, sym, refl, ap, ◌∙◌, subst, eqb, arith, length-append, length-set, append-nil, append_assoc, get_or_append_left, some, some-injective, some-ne-none, get_elem?, if◌then◌else◌, Cell, Batch, blank, Owned, moved, all_places, Adjacent}
use Rattle.std.proofs.lemmas.List.{get_or-append-add, set-append_left}

abbrev Log : Type 0
Log = List (Owned Batch)

pub flat_push : (log : Log) (o : Owned Batch) → all_places (log ++ o ∷ []) ≡ all_places log ++ o.2.places
flat_push [] o = append-nil o.2.places
flat_push (x ∷ xs) o = ap (λ (z : List Cell). x.2.places ++ z) (flat_push xs o) ∙ sym (append_assoc x.2.places (all_places xs) o.2.places)

pub adjacent_push : (p : ℕ) (log : Log) (o : Owned Batch) → Adjacent p log → o.2.start ≡ p + length (all_places log) → Adjacent p (log ++ o ∷ [])
adjacent_push p [] o c e = ((omega arith), tt)
adjacent_push p (x ∷ xs) o c e = (c.0, adjacent_push (p + length x.2.places) xs o c.1 (omega (arith, length-append x.2.places (all_places xs))))

-- where a stretch of the log lies among the places, and what its change does to them
pub record Lies (p : ℕ) (log : Log) (k : ℕ) (o : Owned Batch) : Type 0 where
  pub at : ℕ
  pub start : o.2.start ≡ p + at
  pub within : at + length o.2.places ≤ length (all_places log)
  pub same : (i : ℕ) → i < length o.2.places → get_or (all_places log) (at + i) blank ≡ get_or o.2.places i blank
  pub change : (c m i : ℕ) (x : Cell) → i < length o.2.places → all_places (set log k (c, m, record { start = o.2.start; places = set o.2.places i x })) ≡ set (all_places log) (at + i) x
  pub adjacent : (c m i : ℕ) (x : Cell) → Adjacent p (set log k (c, m, record { start = o.2.start; places = set o.2.places i x }))

set_after : {A : Type 0} (l r : List A) (i : ℕ) (x : A) → set (l ++ r) (length l + i) x ≡ l ++ set r i x
set_after {A} [] r i x = let e : 0 + i ≡ i = omega arith in ap (λ (z : ℕ). set r z x) e
set_after {A} (y ∷ ys) r i x = let e : suc (length ys) + i ≡ suc (length ys + i) = omega arith in ap (λ (z : ℕ). set (y ∷ (ys ++ r)) z x) e ∙ ap (λ (z : List A). y ∷ z) (set_after ys r i x)

pub lies : (p : ℕ) (log : Log) (k : ℕ) (o : Owned Batch) → Adjacent p log → get_elem? log k ≡ some o → Lies p log k o
lies p [] k o c e = absurd (some-ne-none o (sym e))
lies p (y ∷ ys) zero o c e = subst (Lies p (y ∷ ys) zero) (some-injective y o e) record {
  at = 0;
  start = let h = c.0 in omega arith;
  within = omega (arith, length-append y.2.places (all_places ys));
  same = λ i h. let z : 0 + i ≡ i = omega arith in ap (λ (n : ℕ). get_or (y.2.places ++ all_places ys) n blank) z ∙ get_or_append_left y.2.places (all_places ys) blank i h;
  change = λ d m i x h. let z : i ≡ 0 + i = omega arith in sym (set-append_left y.2.places (all_places ys) i x h) ∙ ap (λ (n : ℕ). set (y.2.places ++ all_places ys) n x) z;
  adjacent = λ d m i x. (c.0, subst (λ (n : ℕ). Adjacent (p + n) ys) (sym (length-set y.2.places i x)) c.1);
}
lies p (y ∷ ys) (suc k) o c e = let r = lies (p + length y.2.places) ys k o c.1 e in let n : ℕ = length y.2.places in let w = r.within in let s = r.start in record {
  at = n + r.at;
  start = omega arith;
  within = omega (arith, length-append y.2.places (all_places ys));
  same = λ i h. let z : n + r.at + i ≡ n + (r.at + i) = omega arith in ap (λ (v : ℕ). get_or (y.2.places ++ all_places ys) v blank) z ∙ get_or-append-add y.2.places (all_places ys) (r.at + i) blank ∙ r.same i h;
  change = λ d m i x h. let z : n + (r.at + i) ≡ n + r.at + i = omega arith in ap (λ (v : List Cell). y.2.places ++ v) (r.change d m i x h) ∙ sym (set_after y.2.places (all_places ys) (r.at + i) x) ∙ ap (λ (v : ℕ). set (y.2.places ++ all_places ys) v x) z;
  adjacent = λ d m i x. (c.0, r.adjacent d m i x);
}

if_same : (a b : Owned Batch) → a.2 ≡ b.2 → (t : Bool) → (if t then a else b).2 ≡ b.2
if_same a b e true = e
if_same a b e false = refl

-- entries that change their owner stay where they are
pub moved_entry : (c d n : ℕ) (o : Owned Batch) → (moved c d n o).2 ≡ o.2
moved_entry c d n o = let to : Owned Batch = (c, n + o.1, o.2) in if_same to o refl (eqb o.0 d)

module _ (g : Owned Batch → Owned Batch) (same : (o : Owned Batch) → (g o).2 ≡ o.2) where
  pub flat_kept : (log : Log) → all_places (map g log) ≡ all_places log
  flat_kept [] = refl
  flat_kept (o ∷ os) = λ k. (same o k).places ++ flat_kept os k

  pub adjacent_kept : (p : ℕ) (log : Log) → Adjacent p log → Adjacent p (map g log)
  adjacent_kept p [] h = tt
  adjacent_kept p (o ∷ os) h = subst (λ (z : Batch). (z.start ≡ p) × Adjacent (p + length z.places) (map g os)) (sym (same o)) (h.0, adjacent_kept (p + length o.2.places) os h.1)

-- a stretch after others starts no earlier than they end
pub starts_past : (p : ℕ) (log : Log) (k : ℕ) (o : Owned Batch) → Adjacent p log → get_elem? log k ≡ some o → p ≤ o.2.start
starts_past p log k o c e = let s = lies p log k o c e in let st = s.start in omega arith

pub one_start : (p : ℕ) (log : Log) (k j : ℕ) (o r : Owned Batch) → Adjacent p log → ((i : ℕ) (x : Owned Batch) → get_elem? log i ≡ some x → 0 < length x.2.places) → get_elem? log k ≡ some o → get_elem? log j ≡ some r → o.2.start ≡ r.2.start → k ≡ j
one_start p [] k j o r c solid e d is = absurd (some-ne-none o (sym e))
one_start p (y ∷ ys) zero zero o r c solid e d is = refl
one_start p (y ∷ ys) zero (suc j) o r c solid e d is = let past = starts_past (p + length y.2.places) ys j r c.1 d in let long = solid 0 y refl in let same : y.2.start ≡ o.2.start = ap (λ (z : Owned Batch). z.2.start) (some-injective y o e) in let first = c.0 in absurd (omega arith)
one_start p (y ∷ ys) (suc k) zero o r c solid e d is = let past = starts_past (p + length y.2.places) ys k o c.1 e in let long = solid 0 y refl in let same : y.2.start ≡ r.2.start = ap (λ (z : Owned Batch). z.2.start) (some-injective y r d) in let first = c.0 in absurd (omega arith)
one_start p (y ∷ ys) (suc k) (suc j) o r c solid e d is = ap suc (one_start (p + length y.2.places) ys k j o r c.1 (λ i x at. solid (suc i) x at) e d is)
