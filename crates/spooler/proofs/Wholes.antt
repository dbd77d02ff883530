-- Which lists of items are lines, and that items are cut into lines in one way.
use Rattle.spooler.proofs.Common.{◌≡◌, ◌≢◌, ⊎_elim, ℕ, ◌+◌, ◌-◌, ◌<◌, ◌≤◌, List, [], ◌∷◌, ◌++◌, ◌∙◌, length, get_or, take, drop, set, refl, sym, ap, subst, arith, concat, get_or_append_left, length-append, take-append-le, drop-append_seam, get_or-append_seam, take-length, some, get_elem?, IsLine, Interleaves, Line, lines_of, IsWhole}
use mathlib.Core.Logic.{dite}
use native.Mathlib.Decide.{ℕ_discrete}
use Rattle.atomic_table.proofs.Lists.{at_set}

-- a text without an end of a line, followed by an end of a line
pub whole_of : (text : List ℕ) → length text < 64 → ((k : ℕ) → k < length text → get_or text k 0 ≢ 10) → IsWhole (text ++ 10 ∷ [])
whole_of text low none =
    let long : length (text ++ 10 ∷ []) ≡ length text + 1 = length-append text (10 ∷ []) in
    let at : length (text ++ 10 ∷ []) - 1 ≡ length text = omega arith in (
      (omega arith),
      (omega arith),
      (λ i within ten. none i (omega arith) (sym (get_or_append_left text (10 ∷ []) 0 i (omega arith)) ∙ ten)),
      (λ _. ap (λ (z : ℕ). get_or (text ++ 10 ∷ []) z 0) at ∙ get_or-append_seam text 10 [] 0),
    )

-- what was taken as a line is one
pub line_whole : (items : List ℕ) → IsLine 64 items → length items ≤ 64 → IsWhole items
line_whole items l short = (l.1, short, l.0, λ low. ⊎_elim (λ ten. ten) (λ full. absurd (omega arith)) l.2)

abbrev pub AllWhole : List (List ℕ) → Type 0
AllWhole [] = Unit {0}
AllWhole (l ∷ lines) = IsWhole l × AllWhole lines

pub all_whole : (lines : List Line) → AllWhole (lines_of lines)
all_whole [] = tt
all_whole (l ∷ lines) = (l.whole, all_whole lines)

-- what an order takes from lists of lines are lines
pub order_whole : (order : List (List ℕ)) (lists : List (List (List ℕ))) → Interleaves order lists → ((k : ℕ) (l : List (List ℕ)) → get_elem? lists k ≡ some l → AllWhole l) → AllWhole order
order_whole [] lists i all = tt
order_whole (x ∷ order) lists i all = let h = all i.0 (x ∷ i.1) i.2 in
    (h.0, order_whole order (set lists i.0 i.1) i.3 (λ k l at. ⊎_elim (λ t. subst AllWhole t.1 h.1) (λ t. all k l t.1) (at_set lists i.0 k i.1 l at)))

-- ONE CUT

not_longer : (x y a b : List ℕ) → IsWhole x → IsWhole y → x ++ a ≡ y ++ b → length x < length y → ⊥
not_longer x y a b w v same low =
    let short = v.1 in
    let some_item = w.0 in
    let ten : get_or x (length x - 1) 0 ≡ 10 = w.3 (omega arith) in
    let there : get_or y (length x - 1) 0 ≡ get_or x (length x - 1) 0 = sym (get_or_append_left y b 0 (length x - 1) (omega arith)) ∙ (ap (λ (z : List ℕ). get_or z (length x - 1) 0) (sym same) ∙ get_or_append_left x a 0 (length x - 1) (omega arith)) in
    v.2 (length x - 1) (omega arith) (there ∙ ten)

as_long : (m n : ℕ) → (m < n → ⊥) → (n < m → ⊥) → m ≡ n
as_long m n a b = dite (ℕ_discrete m n) (λ e. e) (λ ne. absurd (a (b' m n ne b)))
  where
    b' : (m n : ℕ) → m ≢ n → (n < m → ⊥) → m < n
    b' m n ne not_low = omega arith

one_line : (x y a b : List ℕ) → IsWhole x → IsWhole y → x ++ a ≡ y ++ b → (x ≡ y) × (a ≡ b)
one_line x y a b w v same =
    let long : length x ≡ length y = as_long (length x) (length y) (not_longer x y a b w v same) (not_longer y x b a v w (sym same)) in
    let front : (s t : List ℕ) → take (length s) (s ++ t) ≡ s = λ s t. take-append-le (length s) s t (omega arith) ∙ take-length s in (
      sym (front x a) ∙ (ap (take (length x)) same ∙ (ap (λ (z : ℕ). take z (y ++ b)) long ∙ front y b)),
      sym (drop-append_seam x a) ∙ (ap (drop (length x)) same ∙ (ap (λ (z : ℕ). drop z (y ++ b)) long ∙ drop-append_seam y b)),
    )

pub one_cut : (xs ys : List (List ℕ)) → AllWhole xs → AllWhole ys → concat xs ≡ concat ys → xs ≡ ys
one_cut [] [] a b same = refl
one_cut [] (y ∷ ys) a b same = let n : length (y ++ concat ys) ≡ 0 = ap length (sym same) in let m = length-append y (concat ys) in let s = b.0.0 in absurd (omega arith)
one_cut (x ∷ xs) [] a b same = let n : length (x ++ concat xs) ≡ 0 = ap length same in let m = length-append x (concat xs) in let s = a.0.0 in absurd (omega arith)
one_cut (x ∷ xs) (y ∷ ys) a b same = let h = one_line x y (concat xs) (concat ys) a.0 b.0 same in let r = one_cut xs ys a.1 b.1 h.1 in λ i. h.0 i ∷ r i
