-- Stretches of one list that have nothing in common.
use Rattle.table_theory.proofs.Common.{◌≡◌, ℕ, suc, zero, ◌+◌, ◌<◌, ◌≤◌, List, [], ◌∷◌, ◌++◌, length, sym, ap, ◌∙◌, subst, arith, some, some-injective, some-ne-none, dite, dec_lt, ℕ_discrete, get_elem?, at_longer, Batch, Cell, Owned, Adjacent, IsListed}
use Rattle.table_theory.specs.Apart.{AreApart}
use Rattle.table_theory.proofs.Logs.{starts_past}
use Rattle.table_theory.proofs.Owned.{at_below, at_after}

-- of two stretches of a log, the earlier ends before the later starts
log_apart : (p : ℕ) (log : List (Owned Batch)) (k j : ℕ) (o r : Owned Batch) → Adjacent p log → get_elem? log k ≡ some o → get_elem? log j ≡ some r → k < j → o.2.start + length o.2.places ≤ r.2.start
log_apart p [] k j o r c at to low = absurd (some-ne-none o (sym at))
log_apart p (x ∷ xs) zero zero o r c at to low = absurd (omega arith)
log_apart p (x ∷ xs) zero (suc j) o r c at to low = let past = starts_past (p + length x.2.places) xs j r c.1 to in let first = c.0 in let same : x.2.start + length x.2.places ≡ o.2.start + length o.2.places = ap (λ (z : Owned Batch). z.2.start + length z.2.places) (some-injective x o at) in omega arith
log_apart p (x ∷ xs) (suc k) zero o r c at to low = absurd (omega arith)
log_apart p (x ∷ xs) (suc k) (suc j) o r c at to low = log_apart (p + length x.2.places) xs k j o r c.1 at to (omega arith)

-- if one list of a log has the entries of two lists, these two have nothing in common
pub lists_apart : (first : ℕ) (places : List Cell) (log : List (Owned Batch)) (lists : List (List Batch)) (c : ℕ) (l r both : List Batch) → IsListed first places log lists → get_elem? lists c ≡ some both → both ≡ l ++ r → AreApart l r
lists_apart first places log lists c l r both a has is m n position e f at to mine yours =
    let there : get_elem? both m ≡ some e = subst (λ (z : List Batch). get_elem? z m ≡ some e) (sym is) (at_longer l r m e at) in
    let following : get_elem? both (length l + n) ≡ some f = subst (λ (z : List Batch). get_elem? z (length l + n) ≡ some f) (sym is) (at_after l r n f to) in
    let one = a.filed.listed c both m e has there in let two = a.filed.listed c both (length l + n) f has following in let below = at_below l m e at in
    let from = mine.0 in let until = mine.1 in let from' = yours.0 in let until' = yours.1 in
    dite (dec_lt one.0 two.0)
    (λ low. let h = log_apart first log one.0 two.0 (c, m, e) (c, length l + n, f) a.adjacent one.1 two.1 low in absurd (omega arith))
    (λ high. dite (ℕ_discrete one.0 two.0)
    (λ same. let number : m ≡ length l + n = ap (λ (o : Owned Batch). o.1) (some-injective (c, m, e) (c, length l + n, f) (sym one.1 ∙ (ap (get_elem? log) same ∙ two.1))) in absurd (omega arith))
    (λ ne. let h = log_apart first log two.0 one.0 (c, length l + n, f) (c, m, e) a.adjacent two.1 one.1 (omega arith) in absurd (omega arith)))
