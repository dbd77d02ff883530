-- A stack of bytes gives the bytes that are kept.
use Rattle.quajects.proofs.Common.{◌≡◌, ℕ, zero, suc, ◌+◌, ◌-◌, ◌<◌, ◌≤◌, ◌||◌, ◌&&◌, not, Bool, true, false, List, [], ◌∷◌, ◌++◌, length, take, refl, sym, ap, ◌∙◌, subst, if◌then◌else◌, arith, get_or, eq-eqb, take_more, list_any, ltb-true, lt-ltb, false≢true, ne_eqb, dec_le, is_erase, is_kill, is_other, after_kills, erases, others, outweighs_to, outweighs, kept}
use Rattle.std.proofs.Math.Bool.{or-true as or_true}
use Rattle.event_theory.proofs.Lists.Histories.{both}

-- the erases of a stretch that have no byte before them to take back
abbrev pub unmatched : List ℕ → ℕ
unmatched [] = 0
unmatched (b ∷ bs) = if is_erase b then suc (unmatched bs) else unmatched bs - 1

abbrev pub is_zero : ℕ → Bool
is_zero zero = true
is_zero (suc n) = false

-- the bytes that no later erase takes back
abbrev pub standing : List ℕ → List ℕ
standing [] = []
standing (b ∷ bs) = if is_other b && is_zero (unmatched bs) then b ∷ standing bs else standing bs

abbrev pub front : List ℕ → List ℕ
front [] = []
front (b ∷ []) = []
front (b ∷ c ∷ bs) = b ∷ front (c ∷ bs)

abbrev pub is_empty : List ℕ → Bool
is_empty [] = true
is_empty (b ∷ bs) = false

push_if : (t : Bool) (x : ℕ) (s : List ℕ) (b : ℕ) → (if t then x ∷ (s ++ b ∷ []) else s ++ b ∷ []) ≡ (if t then x ∷ s else s) ++ b ∷ []
push_if true x s b = refl
push_if false x s b = refl

-- another byte is appended
pub standing_other : (q : List ℕ) (b : ℕ) → is_erase b ≡ false → (standing (q ++ b ∷ []) ≡ standing q ++ b ∷ []) × (unmatched (q ++ b ∷ []) ≡ unmatched q)
standing_other [] b e = (ap (λ (z : Bool). if not z && true then b ∷ [] else []) e, ap (λ (z : Bool). if z then 1 else 0) e)
standing_other (x ∷ q) b e = let ih = standing_other q b e in (
  ap (λ (z : ℕ). if is_other x && is_zero z then x ∷ standing (q ++ b ∷ []) else standing (q ++ b ∷ [])) ih.1
      ∙ ap (λ (z : List ℕ). if is_other x && is_zero (unmatched q) then x ∷ z else z) ih.0
      ∙ push_if (is_other x && is_zero (unmatched q)) x (standing q) b,
  ap (λ (z : ℕ). if is_erase x then suc z else z - 1) ih.1,
)

-- the unmatched erases when one is appended
abbrev pub one_more : List ℕ → ℕ → ℕ
one_more s u = if is_empty s then suc u else u

erase_if : (er : Bool) (x : ℕ) (s : List ℕ) (u : ℕ)
    → ((if not er && is_zero (one_more s u) then x ∷ front s else front s) ≡ front (if not er && is_zero u then x ∷ s else s))
    × ((if er then suc (one_more s u) else one_more s u - 1) ≡ one_more (if not er && is_zero u then x ∷ s else s) (if er then suc u else u - 1))
erase_if true x [] u = (refl, refl)
erase_if true x (y ∷ s) u = (refl, refl)
erase_if false x [] zero = (refl, refl)
erase_if false x [] (suc n) = (refl, omega arith)
erase_if false x (y ∷ s) zero = (refl, refl)
erase_if false x (y ∷ s) (suc n) = (refl, refl)

-- an erase is appended
pub standing_erase : (q : List ℕ) (b : ℕ) → is_erase b ≡ true → (standing (q ++ b ∷ []) ≡ front (standing q)) × (unmatched (q ++ b ∷ []) ≡ one_more (standing q) (unmatched q))
standing_erase [] b e = (ap (λ (z : Bool). if not z && true then b ∷ [] else []) e, ap (λ (z : Bool). if z then 1 else 0) e)
standing_erase (x ∷ q) b e = let ih = standing_erase q b e in let s = erase_if (is_erase x) x (standing q) (unmatched q) in (
  ap (λ (z : ℕ). if is_other x && is_zero z then x ∷ standing (q ++ b ∷ []) else standing (q ++ b ∷ [])) ih.1
      ∙ ap (λ (z : List ℕ). if is_other x && is_zero (one_more (standing q) (unmatched q)) then x ∷ z else z) ih.0
      ∙ s.0,
  ap (λ (z : ℕ). if is_erase x then suc z else z - 1) ih.1 ∙ s.1,
)

no_more_if : (e : Bool) (u x y k : ℕ) → ((j : ℕ) → u ≤ j → x ≤ y + j) → (if e then suc u else u - 1) ≤ k → (if e then suc x else x) ≤ (if e then y else suc y) + k
no_more_if true u x y k ih h = let t = ih (k - 1) (omega arith) in omega arith
no_more_if false u x y k ih h = let t = ih (k + 1) (omega arith) in omega arith

-- if at most k erases are unmatched, no stretch from the beginning has more than k erases more than others
no_more : (bs : List ℕ) (k : ℕ) → unmatched bs ≤ k → (i : ℕ) → erases (take i bs) ≤ others (take i bs) + k
no_more [] k h zero = omega arith
no_more [] k h (suc i) = omega arith
no_more (b ∷ bs) k h zero = omega arith
no_more (b ∷ bs) k h (suc i) = no_more_if (is_erase b) (unmatched bs) (erases (take i bs)) (others (take i bs)) k (λ j l. no_more bs j l i) h

at_most_if : (e : Bool) (u k n : ℕ) (x y : ℕ → ℕ) → x 0 ≡ 0 → y 0 ≡ 0 → ((j : ℕ) → ((i : ℕ) → i ≤ n → x i ≤ y i + j) → u ≤ j)
    → ((i : ℕ) → i ≤ n → (if e then suc (x i) else x i) ≤ (if e then y i else suc (y i)) + k) → (if e then suc u else u - 1) ≤ k
at_most_if true u k n x y x0 y0 ih h = let h0 = h 0 (omega arith) in let t = ih (k - 1) (λ i l. let r = h i l in omega arith) in omega arith
at_most_if false u k n x y x0 y0 ih h = let t = ih (k + 1) (λ i l. let r = h i l in omega arith) in omega arith

-- and conversely
at_most : (bs : List ℕ) (k : ℕ) → ((i : ℕ) → i ≤ length bs → erases (take i bs) ≤ others (take i bs) + k) → unmatched bs ≤ k
at_most [] k h = omega arith
at_most (b ∷ bs) k h = at_most_if (is_erase b) (unmatched bs) k (length bs) (λ i. erases (take i bs)) (λ i. others (take i bs)) refl refl (λ j f. at_most bs j f) (λ i l. h (suc i) (omega arith))

both_from : (a b : Bool) → a ≡ true → b ≡ true → (a && b) ≡ true
both_from true b h k = k
both_from false b h k = h

outweighs_last : (n : ℕ) (bs : List ℕ) → outweighs_to (suc n) bs ≡ true → erases (take (suc n) bs) < others (take (suc n) bs)
outweighs_last n bs h = ltb-true _ _ (both (outweighs_to n bs) _ h).1

outweighs_step : (n i : ℕ) (bs : List ℕ) → outweighs_to (suc n) bs ≡ true → i < suc n → (i < n → erases (take (suc i) bs) < others (take (suc i) bs)) → Dec (suc i ≤ n) → erases (take (suc i) bs) < others (take (suc i) bs)
outweighs_step n i bs h l below (yes d) = below (omega arith)
outweighs_step n i bs h l below (no d) = let e : n ≡ i = omega arith in subst (λ (z : ℕ). erases (take (suc z) bs) < others (take (suc z) bs)) e (outweighs_last n bs h)

outweighs_all : (n : ℕ) (bs : List ℕ) → outweighs_to n bs ≡ true → (i : ℕ) → i < n → erases (take (suc i) bs) < others (take (suc i) bs)
outweighs_all zero bs h i l = absurd (omega arith)
outweighs_all (suc n) bs h i l = outweighs_step n i bs h l (outweighs_all n bs (both (outweighs_to n bs) _ h).0 i) (dec_le (suc i) n)

all_outweigh : (n : ℕ) (bs : List ℕ) → ((i : ℕ) → i < n → erases (take (suc i) bs) < others (take (suc i) bs)) → outweighs_to n bs ≡ true
all_outweigh zero bs h = refl
all_outweigh (suc n) bs h = both_from (outweighs_to n bs) _ (all_outweigh n bs (λ i l. h i (omega arith))) (lt-ltb _ _ (h n (omega arith)))

no_erase : (e : Bool) → (if e then 1 else 0) < (if e then 0 else 1) → e ≡ false
no_erase true h = absurd (omega arith)
no_erase false h = refl

less_if : (e : Bool) (x y : ℕ) → e ≡ false → (if e then suc x else x) < (if e then y else suc y) → x ≤ y + 0
less_if true x y e h = absurd (false≢true (sym e))
less_if false x y e h = omega arith

more_if : (e : Bool) (x y : ℕ) → e ≡ false → x ≤ y + 0 → (if e then suc x else x) < (if e then y else suc y)
more_if true x y e h = absurd (false≢true (sym e))
more_if false x y e h = omega arith

split_test : (e : Bool) (u : ℕ) → (not e && is_zero u) ≡ true → (e ≡ false) × (u ≤ 0)
split_test true u h = absurd (false≢true h)
split_test false zero h = (refl, omega arith)
split_test false (suc n) h = absurd (false≢true h)

join_test : (e : Bool) (u : ℕ) → e ≡ false → u ≤ 0 → (not e && is_zero u) ≡ true
join_test true u e h = absurd (false≢true (sym e))
join_test false zero e h = refl
join_test false (suc n) e h = absurd (omega arith)

one_test : (a b : Bool) → (a ≡ true → b ≡ true) → (b ≡ true → a ≡ true) → a ≡ b
one_test true b f g = sym (f refl)
one_test false true f g = g refl
one_test false false f g = refl

-- each stretch that starts here has more other bytes than erases, if this is no erase and none after it is unmatched
stands : (b : ℕ) (bs : List ℕ) → outweighs (b ∷ bs) ≡ (is_other b && is_zero (unmatched bs))
stands b bs = one_test _ _
    (λ h. let f = outweighs_all (length (b ∷ bs)) (b ∷ bs) h in let e = no_erase (is_erase b) (f 0 (omega arith)) in
    join_test (is_erase b) (unmatched bs) e (at_most bs 0 (λ i l. less_if (is_erase b) _ _ e (f i (omega arith)))))
    (λ h. let t = split_test (is_erase b) (unmatched bs) h in
    all_outweigh (length (b ∷ bs)) (b ∷ bs) (λ i l. more_if (is_erase b) _ _ t.0 (no_more bs 0 t.1 i)))

kept_standing : (bs : List ℕ) → kept bs ≡ standing bs
kept_standing [] = refl
kept_standing (b ∷ bs) = ap (λ (t : Bool). if t then b ∷ kept bs else kept bs) (stands b bs)
    ∙ ap (λ (z : List ℕ). if is_other b && is_zero (unmatched bs) then b ∷ z else z) (kept_standing bs)

kill_last : (q : List ℕ) (b : ℕ) → is_kill b ≡ true → list_any is_kill (q ++ b ∷ []) ≡ true
kill_last [] b h = ap (λ (z : Bool). z || false) h
kill_last (x ∷ q) b h = ap (λ (z : Bool). is_kill x || z) (kill_last q b h) ∙ or_true (is_kill x)

or_same : (q : List ℕ) (b : ℕ) → is_kill b ≡ false → list_any is_kill (q ++ b ∷ []) ≡ list_any is_kill q
or_same [] b h = ap (λ (z : Bool). z || false) h
or_same (x ∷ q) b h = ap (λ (z : Bool). is_kill x || z) (or_same q b h)

kills_last : (q : List ℕ) (b : ℕ) → is_kill b ≡ true → after_kills (q ++ b ∷ []) ≡ []
kills_last [] b h = ap (λ (z : Bool). if z || false then [] else b ∷ []) h
kills_last (x ∷ q) b h = ap (λ (z : Bool). if z then after_kills (q ++ b ∷ []) else x ∷ (q ++ b ∷ [])) (kill_last (x ∷ q) b h) ∙ kills_last q b h

kills_if : (t : Bool) (x : ℕ) (q s : List ℕ) (b : ℕ) → (if t then s ++ b ∷ [] else x ∷ (q ++ b ∷ [])) ≡ (if t then s else x ∷ q) ++ b ∷ []
kills_if true x q s b = refl
kills_if false x q s b = refl

kills_else : (q : List ℕ) (b : ℕ) → is_kill b ≡ false → after_kills (q ++ b ∷ []) ≡ after_kills q ++ b ∷ []
kills_else [] b h = ap (λ (z : Bool). if z || false then [] else b ∷ []) h
kills_else (x ∷ q) b h = ap (λ (z : Bool). if z then after_kills (q ++ b ∷ []) else x ∷ (q ++ b ∷ [])) (or_same (x ∷ q) b h)
    ∙ ap (λ (z : List ℕ). if list_any is_kill (x ∷ q) then z else x ∷ (q ++ b ∷ [])) (kills_else q b h)
    ∙ kills_if (list_any is_kill (x ∷ q)) x q (after_kills q) b

front_take : (s : List ℕ) → front s ≡ take (length s - 1) s
front_take [] = refl
front_take (b ∷ []) = refl
front_take (b ∷ c ∷ s) = ap (λ (z : List ℕ). b ∷ z) (front_take (c ∷ s))
    ∙ (let e : suc (suc (length s)) - 1 ≡ suc (suc (length s) - 1) = omega arith in ap (λ (k : ℕ). take k (b ∷ c ∷ s)) (sym e))

-- the effect of one more byte
pub cook_kill : (q : List ℕ) (b : ℕ) → is_kill b ≡ true → kept (after_kills (q ++ b ∷ [])) ≡ []
cook_kill q b h = ap kept (kills_last q b h)

pub cook_erase : (q : List ℕ) (b : ℕ) → is_kill b ≡ false → is_erase b ≡ true → kept (after_kills (q ++ b ∷ [])) ≡ take (length (kept (after_kills q)) - 1) (kept (after_kills q))
cook_erase q b h e = ap kept (kills_else q b h) ∙ kept_standing (after_kills q ++ b ∷ []) ∙ (standing_erase (after_kills q) b e).0
    ∙ ap front (sym (kept_standing (after_kills q))) ∙ front_take (kept (after_kills q))

pub cook_other : (q : List ℕ) (b : ℕ) → is_kill b ≡ false → is_erase b ≡ false → kept (after_kills (q ++ b ∷ [])) ≡ kept (after_kills q) ++ b ∷ []
cook_other q b h e = ap kept (kills_else q b h) ∙ kept_standing (after_kills q ++ b ∷ []) ∙ (standing_other (after_kills q) b e).0
    ∙ ap (λ (z : List ℕ). z ++ b ∷ []) (sym (kept_standing (after_kills q)))

no_kill : (b : ℕ) → (b ≡ 21 → ⊥) → is_kill b ≡ false
no_kill b h = ne_eqb b 21 h

abbrev pub upto : ℕ → List ℕ → List ℕ
upto i line = kept (after_kills (take i line))

pub step_kill : (line : List ℕ) (i : ℕ) → i < length line → get_or line i 0 ≡ 21 → upto (i + 1) line ≡ []
step_kill line i l e = ap (λ (z : List ℕ). kept (after_kills z)) (take_more line i 0 l) ∙ cook_kill (take i line) (get_or line i 0) (eq-eqb (get_or line i 0) 21 e)

pub step_erase : (line : List ℕ) (i : ℕ) (t : Bool) → i < length line → (get_or line i 0 ≡ 21 → ⊥) → t ≡ true → t ≡ is_erase (get_or line i 0)
    → upto (i + 1) line ≡ take (length (upto i line) - 1) (upto i line)
step_erase line i t l n h e = ap (λ (z : List ℕ). kept (after_kills z)) (take_more line i 0 l) ∙ cook_erase (take i line) (get_or line i 0) (no_kill (get_or line i 0) n) (sym e ∙ h)

pub step_other : (line : List ℕ) (i : ℕ) (t : Bool) → i < length line → (get_or line i 0 ≡ 21 → ⊥) → t ≡ false → t ≡ is_erase (get_or line i 0)
    → upto (i + 1) line ≡ upto i line ++ get_or line i 0 ∷ []
step_other line i t l n h e = ap (λ (z : List ℕ). kept (after_kills z)) (take_more line i 0 l) ∙ cook_other (take i line) (get_or line i 0) (no_kill (get_or line i 0) n) (sym e ∙ h)
