-- The entries of a log and the entries of its lists have the same total, since each is listed once.
use Rattle.table_theory.proofs.Common.{◌≡◌, ℕ, zero, suc, ◌+◌, ◌⊎◌, ⊎_elim, inl, inr, List, [], ◌∷◌, map, set, sym, refl, ap, subst, ◌∙◌, arith, dite, ℕ_discrete, some, some-injective, some-ne-none, get_elem?, set_else, set_here, at_set, Owned, ListedOnce, total}
use Rattle.table_theory.proofs.Owned.{Stands, at_below, file_map, one_at, reported}
use Rattle.table_theory.proofs.Totals.{total_set}
use Rattle.table_theory.proofs.Times.{total_map, total_none, total_same}

abbrev Weights : Type 0
Weights = List (List ℕ)

abbrev sum_of : List ℕ → ℕ
sum_of l = total (λ w. w) l

-- each entry of the log is in its list
abbrev AreIn : List (Owned ℕ) → Weights → Type 0
AreIn log ws = (k : ℕ) (o : Owned ℕ) → get_elem? log k ≡ some o → Stands ws o

-- no two entries are at one place
abbrev AreApart : List (Owned ℕ) → Type 0
AreApart log = (k j : ℕ) (o p : Owned ℕ) → get_elem? log k ≡ some o → get_elem? log j ≡ some p → o.0 ≡ p.0 → o.1 ≡ p.1 → k ≡ j

-- a weight that is in no entry is 0
abbrev NoneElse : List (Owned ℕ) → Weights → Type 0
NoneElse log ws = (c : ℕ) (l : List ℕ) (m w : ℕ) → get_elem? ws c ≡ some l → get_elem? l m ≡ some w → (w ≡ 0) ⊎ ((k : ℕ) × (get_elem? log k ≡ some (c, m, w)))

-- the first entry leaves, and its weight becomes 0
module _ (o : Owned ℕ) (log : List (Owned ℕ)) (ws : Weights) (within : AreIn (o ∷ log) ws) (apart : AreApart (o ∷ log)) (rest : NoneElse (o ∷ log) ws) where
  mine : Stands ws o
  mine = within 0 o refl

  abbrev row : List ℕ
  row = mine.0

  abbrev less : List ℕ
  less = set row o.1 0

  abbrev left : Weights
  left = set ws o.0 less

  left_in : AreIn log left
  left_in k p at = let s = within (suc k) p at in dite (ℕ_discrete p.0 o.0)
      (λ own. let l_is : s.0 ≡ row = one_at ws o.0 s.0 row (subst (λ (z : ℕ). get_elem? ws z ≡ some s.0) own s.1) mine.1 in (
        less,
        subst (λ (z : ℕ). get_elem? left z ≡ some less) (sym own) (set_here ws o.0 less (at_below ws o.0 row mine.1)),
        set_else row o.1 p.1 0 (λ same. absurd (let e : suc k ≡ 0 = apart (suc k) 0 p o at refl own same in omega arith)) ∙ subst (λ (z : List ℕ). get_elem? z p.1 ≡ some p.2) l_is s.2,
      ))
      (λ ne. (s.0, set_else ws o.0 p.0 less ne ∙ s.1, s.2))

  left_apart : AreApart log
  left_apart k j p q at at' own num = let e : suc k ≡ suc j = apart (suc k) (suc j) p q at at' own num in omega arith

  not_first : (c m w : ℕ) (k : ℕ) → get_elem? (o ∷ log) k ≡ some (c, m, w) → (c ≡ o.0 → m ≡ o.1 → ⊥) → (j : ℕ) × (get_elem? log j ≡ some (c, m, w))
  not_first c m w zero at ne = let e = some-injective o (c, m, w) at in absurd (ne (ap (λ (z : Owned ℕ). z.0) (sym e)) (ap (λ (z : Owned ℕ). z.1) (sym e)))
  not_first c m w (suc k) at ne = (k, at)

  left_rest : NoneElse log left
  left_rest c l m w at at' = ⊎_elim
      (λ t. ⊎_elim
      (λ u. inl (sym u.1))
      (λ u. ⊎_elim inl (λ r. inr (not_first c m w r.0 r.1 (λ own num. u.0 num))) (rest c row m w (subst (λ (z : ℕ). get_elem? ws z ≡ some row) (sym t.0) mine.1) u.1))
      (at_set row o.1 m 0 w (subst (λ (z : List ℕ). get_elem? z m ≡ some w) (sym t.1) at')))
      (λ t. ⊎_elim inl (λ r. inr (not_first c m w r.0 r.1 (λ own num. t.0 own))) (rest c l m w t.1 at'))
      (at_set ws o.0 c less l at)

  left_sum : total sum_of left + o.2 ≡ total sum_of ws
  left_sum = let a = total_set (λ (w : ℕ). w) row o.1 o.2 0 mine.2 in let b = total_set sum_of ws o.0 row less mine.1 in omega arith

weights_sum : (log : List (Owned ℕ)) (ws : Weights) → AreIn log ws → AreApart log → NoneElse log ws → total (λ o. o.2) log ≡ total sum_of ws
weights_sum [] ws within apart rest = sym (total_none sum_of ws (λ c l at. total_none (λ (w : ℕ). w) l (λ m w at'. ⊎_elim (λ e. e) (λ r. absurd (some-ne-none (c, m, w) (sym r.1))) (rest c l m w at at'))))
weights_sum (o ∷ log) ws within apart rest =
    let h = weights_sum log (left o log ws within apart rest) (left_in o log ws within apart rest) (left_apart o log ws within apart rest) (left_rest o log ws within apart rest) in
    let s = left_sum o log ws within apart rest in omega arith

-- the entries of the log come to what those of the lists come to
pub filed_total : {E : Type 0} (f : E → ℕ) (log : List (Owned E)) (lists : List (List E)) → ListedOnce log lists → total (λ o. f o.2) log ≡ total (λ l. total f l) lists
filed_total f log lists filed = let h = file_map f log lists filed in
    let s = weights_sum (map (reported f) log) (map (map f) lists) h.stands h.once (λ c l m w at at'. inr (h.listed c l m w at at')) in
    let a = total_map (λ (o : Owned ℕ). o.2) (reported f) log in let b = total_map sum_of (map f) lists in
    let c = total_same (λ (l : List _). sum_of (map f l)) (λ l. total f l) lists (λ l. total_map (λ (w : ℕ). w) f l) in omega arith
