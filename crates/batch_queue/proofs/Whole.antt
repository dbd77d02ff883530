-- Batches of a list: where they are, and that all positions of one are published, or none.
use Rattle.batch_queue.proofs.Common.{AreWhole, BatchState, IsBatch, IsEdge, List, [], ap, append-nil, append_assoc, arith, concat, concat-append, get_or, inl, inr, items_of, length, length-append, phase_at, refl, suc, sym, with_batch, with_phase, zero, ℕ, ⊎_elim, ◌++◌, ◌+◌, ◌<◌, ◌∙◌, ◌∷◌, ◌≡◌, ◌≢◌, ◌≤◌, ◌⊎◌}
use Rattle.batch_queue.proofs.Ranges.{get_longer, is_in, range_in, range_out}

abbrev pub Lists : Type 0
Lists = List (List ℕ)

abbrev pub tail_list : Lists → Lists
tail_list [] = []
tail_list (x ∷ xs) = xs

pub first_list : (x y : List ℕ) (xs ys : Lists) → x ∷ xs ≡ y ∷ ys → x ≡ y
first_list x y xs ys e = ap (λ (l : Lists). get_or l 0 []) e

-- a batch of a list with one more is one of the list, or the last
pub last_or : (bs : Lists) (c : List ℕ) (before : Lists) (b : List ℕ) (rest : Lists) → before ++ b ∷ rest ≡ bs ++ c ∷ [] → ((r : Lists) × (before ++ b ∷ r ≡ bs)) ⊎ ((before ≡ bs) × (b ≡ c))
last_or [] c [] b rest e = inr (refl, first_list b c rest [] e)
last_or (y ∷ ys) c [] b rest e = inl (ys, ap (λ (z : List ℕ). z ∷ ys) (first_list b y rest (ys ++ c ∷ []) e))
last_or [] c (x ∷ xs) b rest e = absurd (let l = ap length e in let n = length-append xs (b ∷ rest) in omega arith)
last_or (y ∷ ys) c (x ∷ xs) b rest e = let h = first_list x y (xs ++ b ∷ rest) (ys ++ c ∷ []) e in
    ⊎_elim (λ t. inl (t.0, λ i. h i ∷ t.1 i)) (λ t. inr ((λ i. h i ∷ t.0 i), t.1)) (last_or ys c xs b rest (ap tail_list e))

-- two batches of a list are one, or lie apart
pub two_batches : (before : Lists) (b : List ℕ) (rest before' : Lists) (b' : List ℕ) (rest' : Lists) → before ++ b ∷ rest ≡ before' ++ b' ∷ rest'
    → ((length (concat before) ≡ length (concat before')) × (length b ≡ length b')) ⊎ ((length (concat before) + length b ≤ length (concat before')) ⊎ (length (concat before') + length b' ≤ length (concat before)))
two_batches [] b rest [] b' rest' e = inl (refl, ap length (first_list b b' rest rest' e))
two_batches [] b rest (y ∷ ys) b' rest' e = inr (inl (let h = ap length (first_list b y rest (ys ++ b' ∷ rest') e) in let n = length-append y (concat ys) in omega arith))
two_batches (x ∷ xs) b rest [] b' rest' e = inr (inr (let h = ap length (first_list x b' (xs ++ b ∷ rest) rest' e) in let n = length-append x (concat xs) in omega arith))
two_batches (x ∷ xs) b rest (y ∷ ys) b' rest' e = let h = ap length (first_list x y (xs ++ b ∷ rest) (ys ++ b' ∷ rest') e) in let n = length-append x (concat xs) in let m = length-append y (concat ys) in
    ⊎_elim (λ t. let t0 = t.0 in inl (omega arith, t.1)) (λ t. inr (⊎_elim (λ u. inl (omega arith)) (λ u. inr (omega arith)) t)) (two_batches xs b rest ys b' rest' (ap tail_list e))

pub batch_on : (bs later more : Lists) (p e : ℕ) → bs ++ more ≡ later → IsBatch bs p e → IsBatch later p e
batch_on bs later more p e is b = record { before = b.before; batch = b.batch; rest = b.rest ++ more; all = sym (append_assoc b.before (b.batch ∷ b.rest) more) ∙ (ap (λ (z : Lists). z ++ more) b.all ∙ is); at = b.at; end = b.end }

pub edge_on : (bs later more : List (List ℕ)) (p : ℕ) → bs ++ more ≡ later → IsEdge bs p → IsEdge later p
edge_on bs later more p is e = record { before = e.before; rest = e.rest ++ more; all = sym (append_assoc e.before e.rest more) ∙ (ap (λ (z : List (List ℕ)). z ++ more) e.all ∙ is); at = e.at }

pub whole_claimed : (o : BatchState) (claim : List ℕ) → ((i : ℕ) → length (items_of o) ≤ i → phase_at o i ≡ 0) → AreWhole o → AreWhole (with_batch o claim)
whole_claimed o claim unclaimed w p e b =
    ⊎_elim
    (λ t. ⊎_elim (λ f. inl (λ i c d. get_longer o.phases (length claim) i ∙ f i c d)) (λ f. inr (λ i c d. let g = get_longer o.phases (length claim) i in let y = f i c d in omega arith))
    (w p e (record { before = b.before; batch = b.batch; rest = t.0; all = t.1; at = b.at; end = b.end })))
    (λ t. inl (λ i c d. get_longer o.phases (length claim) i ∙ unclaimed i (let a = b.at in let s = ap (λ (z : Lists). length (concat z)) t.0 in omega arith)))
    (last_or o.batches claim b.before b.batch b.rest b.all)

zero_or : (x : ℕ) → (x ≡ 0) ⊎ (x ≢ 0)
zero_or zero = inl refl
zero_or (suc x) = inr (λ e. omega arith)

-- a run that was not published, a batch of its own, is one phase on; or a run that was published before
pub whole_raised : (o : BatchState) (a b x : ℕ) → length o.phases ≡ length (items_of o) → b ≤ length (items_of o) → ((i : ℕ) → a ≤ i → i < b → phase_at o i ≡ x) → (x ≡ 0 → IsBatch o.batches a b) → AreWhole o → AreWhole (with_phase o a b (suc x))
whole_raised o a b x long le was own w p e batch =
    ⊎_elim
    (λ f. ⊎_elim
    (λ z. let t = own z in ⊎_elim
    (λ s. inr (λ i c d. let n = range_in o.phases a b (suc x) i (omega arith) (let s0 = s.0 in let a1 = t.at in let a2 = batch.at in omega arith) (let s0 = s.0 in let s1 = s.1 in let a1 = t.at in let a2 = batch.at in let e1 = t.end in let e2 = batch.end in omega arith) in omega arith))
    (λ s. inl (λ i c d. range_out o.phases a b (suc x) i (λ y. let y0 = y.0 in let y1 = y.1 in let a1 = t.at in let a2 = batch.at in let e1 = t.end in let e2 = batch.end in ⊎_elim (λ u. let u' : length (concat batch.before) + length batch.batch ≤ length (concat t.before) = u in omega arith) (λ u. let u' : length (concat t.before) + length t.batch ≤ length (concat batch.before) = u in omega arith) s) ∙ f i c d))
    (two_batches batch.before batch.batch batch.rest t.before t.batch t.rest (batch.all ∙ sym t.all)))
    (λ some. inl (λ i c d. range_out o.phases a b (suc x) i (λ y. let h = was i y.0 y.1 in let g = f i c d in some (sym h ∙ g)) ∙ f i c d))
    (zero_or x))
    (λ f. inr (λ i c d. let g = f i c d in ⊎_elim (λ t. let n = range_in o.phases a b (suc x) i (omega arith) t.0 t.1 in omega arith) (λ out. let n = range_out o.phases a b (suc x) i out in omega arith) (is_in a b i)))
    (w p e batch)

-- where a batch ends
pub batch_end : (bs : Lists) (p e : ℕ) → IsBatch bs p e → IsEdge bs e
batch_end bs p e b = record {
  before = b.before ++ b.batch ∷ [];
  rest = b.rest;
  all = append_assoc b.before (b.batch ∷ []) b.rest ∙ b.all;
  at = ap length (concat-append b.before (b.batch ∷ [])) ∙ (length-append (concat b.before) (b.batch ++ []) ∙ (let n = length-append b.batch [] in let a = b.at in let e = b.end in omega arith));
}

-- before the end of the list, a batch begins at each edge
pub edge_batch : (bs : Lists) (p : ℕ) → IsEdge bs p → p < length (concat bs) → (e : ℕ) × IsBatch bs p e × (p < e)
edge_batch bs p h below = found h.before h.rest h.all h.at
  where
    found : (before rest : Lists) → before ++ rest ≡ bs → length (concat before) ≡ p → (e : ℕ) × IsBatch bs p e × (p < e)
    found before [] all at = absurd (let l = ap (λ (z : Lists). length (concat z)) (sym (append-nil before) ∙ all) in omega arith)
    found before ([] ∷ rest) all at = found (before ++ [] ∷ []) rest (append_assoc before ([] ∷ []) rest ∙ all) (ap length (concat-append before ([] ∷ [])) ∙ (length-append (concat before) [] ∙ omega arith))
    found before ((x ∷ xs) ∷ rest) all at = (p + length (x ∷ xs), record { before = before; batch = x ∷ xs; rest = rest; all = all; at = at; end = refl }, omega arith)

-- the last batch of a list
pub last_batch : (bs : Lists) (b : List ℕ) (p n : ℕ) → length (concat bs) ≡ p → length b ≡ n → IsBatch (bs ++ b ∷ []) p (p + n)
last_batch bs b p n at long = record { before = bs; batch = b; rest = []; all = refl; at = at; end = ap (λ (z : ℕ). p + z) long }

-- where the list ends
pub last_edge : (bs : Lists) (p : ℕ) → length (concat bs) ≡ p → IsEdge bs p
last_edge bs p at = record { before = bs; rest = []; all = append-nil bs; at = at }

-- the items of a list that goes on are no fewer
pub concat_grows : (bs later more : Lists) → bs ++ more ≡ later → length (concat bs) ≤ length (concat later)
concat_grows bs later more is = let e = ap (λ (z : Lists). length (concat z)) is in let a = ap length (concat-append bs more) in let l = length-append (concat bs) (concat more) in omega arith

-- a batch that begins within another is that one
pub one_batch : (bs : Lists) (p e a b : ℕ) → IsBatch bs p e → IsBatch bs a b → p < e → a ≤ p → p < b → (p ≡ a) × (e ≡ b)
one_batch bs p e a b v w some_item from to = let a1 = w.at in let a2 = v.at in let e1 = w.end in let e2 = v.end in ⊎_elim
    (λ s. let s0 = s.0 in let s1 = s.1 in (omega arith, omega arith))
    (λ s. absurd (⊎_elim (λ u. let u' : length (concat v.before) + length v.batch ≤ length (concat w.before) = u in omega arith) (λ u. let u' : length (concat w.before) + length w.batch ≤ length (concat v.before) = u in omega arith) s))
    (two_batches v.before v.batch v.rest w.before w.batch w.rest (v.all ∙ sym w.all))
