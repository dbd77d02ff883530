-- Who holds which element after a call lets one go, and after it is handed one.
use Rattle.thread_table.proofs.Common.{◌≡◌, ◌≢◌, ◌⊎◌, inl, inr, ℕ, ◌≤◌, Bool, true, false, ◌||◌, ◌&&◌, cond, List, [], ◌∷◌, ◌++◌, ◌∙◌, length, get_or, refl, sym, ap, arith, Some, None, position, remove, eqb, Ok, and_right, and_from, and_parts, list_any-IsPermutation, get_or_default, dite, dec_lt, true≢false, ne_eqb, eq-eqb, false_from_ne_true, or_right, or_left, or-false, eqb-true, nat_tests, list_any-append, position-Some, list_any, position_or_len, hold, is_hold, let_go, Hold, one, in_hands, let_go_count}
use Rattle.std.proofs.Common.{lt-ltb}
use Rattle.std.proofs.lemmas.Bool.{and_left}
use Rattle.std.proofs.lemmas.List.Folds.{list_any_none}
use Rattle.std.proofs.lemmas.List.Sums.{fails_before_first}
use Rattle.std.proofs.lemmas.List.Sorted.{IsPermutation-remove}
use Rattle.thread_table.proofs.Lists.Counts.{plus, some_count}
use Rattle.std.proofs.lemmas.List.Sums.{sum_by-le-sum_by}

-- what passes a test is found
found : {X : Type 0} (p : X → Bool) (xs : List X) → list_any p xs ≡ true → position p xs ≡ Some (position_or_len p xs)
found p xs any = dite (dec_lt (position_or_len p xs) (length xs))
    (λ low. ap (λ b. cond b (Some (position_or_len p xs)) None) (lt-ltb (position_or_len p xs) (length xs) low))
    (λ no. absurd (true≢false (sym any ∙ list_any_none p xs (λ k d within. fails_before_first p xs k d (omega (arith, no, within))))))

-- one call's hold of an element is no other
pub hold_else : (call element c x : ℕ) (h : Hold) → is_hold call element h ≡ true → (c ≢ call) ⊎ (x ≢ element) → is_hold c x h ≡ false
hold_else call element c x h is (inl other) = and_left (eqb h.call c) (eqb h.element x) (ne_eqb h.call c (λ e. other (sym e ∙ eqb-true h.call call (and_parts (eqb h.call call) (eqb h.element element) is).0)))
hold_else call element c x h is (inr other) = and_right (eqb h.call c) (eqb h.element x) (ne_eqb h.element x (λ e. other (sym e ∙ eqb-true h.element element (and_parts (eqb h.call call) (eqb h.element element) is).1)))

-- what is held is in hands
pub held_counts : (call element : ℕ) (held : List Hold) → list_any (is_hold call element) held ≡ true → 1 ≤ in_hands element held
held_counts call element held any = omega (
  arith,
  some_count (is_hold call element) held any,
  sum_by-le-sum_by (λ (h : Hold). plus (is_hold call element h)) (λ (h : Hold). plus (eqb h.element element)) held (λ h. fewer (eqb h.call call) (eqb h.element element)),
)
  where
    fewer : (b c : Bool) → plus (b && c) ≤ plus c
    fewer true c = omega arith
    fewer false c = omega arith

-- the call's only hold of an element is let go, and every other stays
pub record Releases (call element : ℕ) (held : List Hold) (index : ℕ) : Type 0 where
  pub at : position (is_hold call element) held ≡ Some index
  pub own : list_any (is_hold call element) (remove held index) ≡ false
  pub others : (c x : ℕ) → (c ≢ call) ⊎ (x ≢ element) → list_any (is_hold c x) (remove held index) ≡ list_any (is_hold c x) held

pub releases : (call element : ℕ) (held : List Hold) → list_any (is_hold call element) held ≡ true → in_hands element held ≡ 1
    → Releases call element held (position_or_len (is_hold call element) held)
releases call element held any once =
    let index = position_or_len (is_hold call element) held in
    let at = found (is_hold call element) held any in
    let p = position-Some (is_hold call element) held index (hold call element) at in
    let gone : let_go call element held ≡ Ok (remove held index) = rw at refl in
    let itself : one element element ≡ 1 = grind (arith, nat_tests) in
    let h : Hold = get_or held index (hold call element) in
    let same = IsPermutation-remove held index h p.0 (get_or_default held index (hold call element) h p.0) in
    record {
      at = at;
      own = false_from_ne_true (list_any (is_hold call element) (remove held index)) (λ any. omega (arith, held_counts call element (remove held index) any, let_go_count call element held (remove held index) gone element, itself, once));
      others = λ c x other. sym (list_any-IsPermutation (is_hold c x) held (h ∷ remove held index) same ∙ ap (λ b. b || list_any (is_hold c x) (remove held index)) (hold_else call element c x h p.1 other));
    }

-- the call is handed an element
pub hold_own : (call element : ℕ) → is_hold call element (hold call element) ≡ true
hold_own call element = and_from (eqb call call) (eqb element element) (eq-eqb call call refl) (eq-eqb element element refl)

pub handed : (call element : ℕ) (held : List Hold) → list_any (is_hold call element) (held ++ hold call element ∷ []) ≡ true
handed call element held = list_any-append (is_hold call element) held (hold call element ∷ [])
    ∙ or_right (list_any (is_hold call element) held) (list_any (is_hold call element) (hold call element ∷ [])) (or_left (is_hold call element (hold call element)) false (hold_own call element))

pub handed_else : (call element c x : ℕ) (held : List Hold) → (c ≢ call) ⊎ (x ≢ element)
    → list_any (is_hold c x) (held ++ hold call element ∷ []) ≡ list_any (is_hold c x) held
handed_else call element c x held other =
    list_any-append (is_hold c x) held (hold call element ∷ [])
    ∙ (ap (λ b. list_any (is_hold c x) held || (b || false)) (hold_else call element c x (hold call element) (hold_own call element) other)
    ∙ or-false (list_any (is_hold c x) held))
