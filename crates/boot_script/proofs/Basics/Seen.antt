-- Lines whose bytes were seen to be printable.
use Rattle.boot_script.proofs.Common.{◌≡◌, ℕ, ◌<◌, ◌≤◌, ◌+◌, ◌-◌, List, [], ◌∷◌, ◌∙◌, not, refl, sym, ap, arith, length, take, drop, get_or, ltb, Bool, true, false, cond, Some, None, eqb, false_from_ne_true, not-false, nat_tests, Decides-eqb, get_or-take, length-take-le, position_or_len_is, fails_before_first, list_all-from_AllPass, position, position_or_len, list_all, lines_of, is_printable}
use Rattle.boot_script.proofs.Basics.Cuts.{some_chosen, none_chosen, cut_at, cut_nowhere, one_line, last_line}

-- an end of a line isn't printable
no_end : (b : ℕ) → not (is_printable b) ≡ false → eqb b 10 ≡ false
no_end b h = false_from_ne_true (eqb b 10) (λ ten. absurd (cc (ap (λ x. not (is_printable x)) ((Decides-eqb b 10).0 ten), h)))

chosen : (text : List ℕ) (at place : ℕ) → place ≡ at → at < length text → Some at ≡ cond (ltb place (length text)) (Some place) None
chosen text at place is below =
    let yes : ltb at (length text) ≡ true = grind (arith, nat_tests) in
    sym (ap (λ n. cond (ltb n (length text)) (Some n) None) is ∙ ap (λ b. cond b (Some at) None) yes)

-- the bytes before the first byte that isn't printable are printable
pub line_seen : (text : List ℕ) (at : ℕ) → Some at ≡ position (λ b. not (is_printable b)) text → list_all is_printable (take at text) ≡ true
line_seen text at h =
    let p = some_chosen _ at _ h in
    let here : at < length text = grind (arith, nat_tests, p.0, p.1) in
    list_all-from_AllPass is_printable (take at text) (λ k d within.
    let below : k < at = omega (arith, within, length-take-le at text (omega (arith, here))) in
    ap is_printable (get_or-take at text k d below) ∙ not-false _ (fails_before_first (λ b. not (is_printable b)) text k d (omega (arith, p.1, below))))

-- if no byte isn't printable, all are printable
pub text_seen : (text : List ℕ) → None ≡ position (λ b. not (is_printable b)) text → list_all is_printable text ≡ true
text_seen text h =
    let no = none_chosen _ _ h in
    let past : length text ≤ position_or_len (λ b. not (is_printable b)) text = grind (arith, nat_tests, no) in
    list_all-from_AllPass is_printable text (λ k d within. not-false _ (fails_before_first (λ b. not (is_printable b)) text k d (omega (arith, past, within))))

-- if the first byte that isn't printable is 0x0A, it is the first 0x0A
end_at : (text : List ℕ) (at : ℕ) → Some at ≡ position (λ b. not (is_printable b)) text → get_or text at 0 ≡ 10 → Some at ≡ position (λ b. eqb b 10) text
end_at text at h ten =
    let p = some_chosen _ at _ h in
    let below : at < length text = grind (arith, nat_tests, p.0, p.1) in
    let is = position_or_len_is (λ b. eqb b 10) text at 0 (omega (arith, below)) (λ k before. no_end _ (fails_before_first (λ b. not (is_printable b)) text k 0 (omega (arith, p.1, before)))) (λ w. ap (λ b. eqb b 10) ten) in
    chosen text at (position_or_len (λ b. eqb b 10) text) is below

-- if all bytes are printable, there is no 0x0A
end_nowhere : (text : List ℕ) → None ≡ position (λ b. not (is_printable b)) text → None ≡ position (λ b. eqb b 10) text
end_nowhere text h =
    let no = none_chosen _ _ h in
    let past : length text ≤ position_or_len (λ b. not (is_printable b)) text = grind (arith, nat_tests, no) in
    let is = position_or_len_is (λ b. eqb b 10) text (length text) 0 (omega arith) (λ k before. no_end _ (fails_before_first (λ b. not (is_printable b)) text k 0 (omega (arith, past, before)))) (λ w. absurd (omega (arith, w))) in
    let none : ltb (length text) (length text) ≡ false = grind (arith, nat_tests) in
    sym (ap (λ n. cond (ltb n (length text)) (Some n) None) is ∙ ap (λ b. cond b (Some (length text)) None) none)

pub ended_line : (text : List ℕ) (at : ℕ) → Some at ≡ position (λ b. not (is_printable b)) text → get_or text at 0 ≡ 10 → lines_of text ≡ take at text ∷ lines_of (take (length text - (at + 1)) (drop (at + 1) text))
ended_line text at h ten = one_line text (take at text) (take (length text - (at + 1)) (drop (at + 1) text)) (cut_at 10 text at (end_at text at h ten))

pub only_line : (text : List ℕ) → 0 < length text → None ≡ position (λ b. not (is_printable b)) text → lines_of text ≡ text ∷ lines_of []
only_line text some h = last_line text text some refl (cut_nowhere 10 text (end_nowhere text h))
