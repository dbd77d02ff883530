-- Lines that were heard, which are added to a buffer.
use Rattle.std.proofs.Common.{◌≡◌, ℕ, ◌<◌, ◌≤◌, ◌/◌, ◌%◌, ◌+◌, List, [], ◌∷◌, ◌++◌, ◌∙◌, refl, sym, ap, arith, length, drop, get_or, add-one, append_assoc, codes}
use Rattle.boot_script.proofs.Common.{drop-cons, append-nil, drop_all, decimal_digit, decimal_step, decimal, end_of_line, named, written_byte, heard_text, heard_line}
use Rattle.boot_data.specs.Hearing.{NamedLine}

-- a number of one digit, between spaces
pub one_digit : (n : ℕ) → n < 10 → 32 ∷ (48 + n) ∷ 32 ∷ [] ≡ codes " " ++ decimal n ++ codes " "
one_digit n h = sym (ap (λ digits. 32 ∷ (digits ++ 32 ∷ [])) (decimal_digit n h))

two : (n : ℕ) → 10 ≤ n → n < 100 → decimal n ≡ (48 + n / 10) ∷ (48 + n % 10) ∷ []
two n low high = decimal_step n low (omega (arith, high)) ∙ ap (λ digits. digits ++ (48 + n % 10) ∷ []) (decimal_digit (n / 10) (omega (arith, high)))

-- a number of two digits, between spaces
pub two_digits : (n : ℕ) → 10 ≤ n → n < 100 → 32 ∷ (48 + n / 10) ∷ (48 + n % 10) ∷ 32 ∷ [] ≡ codes " " ++ decimal n ++ codes " "
two_digits n low high = sym (ap (λ digits. 32 ∷ (digits ++ 32 ∷ [])) (two n low high))

-- a byte more was added
pub bytes_more : (old new whole bytes : List ℕ) (i : ℕ) → i < length bytes → new ≡ old ++ written_byte (get_or bytes i 0) → old ++ heard_text (drop i bytes) ≡ whole → new ++ heard_text (drop (i + 1) bytes) ≡ whole
bytes_more old new whole bytes i within added so_far =
    let e : drop i bytes ≡ get_or bytes i 0 ∷ drop (i + 1) bytes = drop-cons bytes i 0 within ∙ ap (λ n. get_or bytes i 0 ∷ drop n bytes) (sym (add-one i)) in
    ap (λ items. items ++ heard_text (drop (i + 1) bytes)) added
    ∙ (append_assoc old (written_byte (get_or bytes i 0)) (heard_text (drop (i + 1) bytes)) ∙ (sym (ap (λ left. old ++ heard_text left) e) ∙ so_far))

-- all bytes were added
pub bytes_done : (new whole bytes : List ℕ) (i : ℕ) → length bytes ≤ i → new ++ heard_text (drop i bytes) ≡ whole → new ≡ whole
bytes_done new whole bytes i past so_far = sym (append-nil new) ∙ (sym (ap (λ left. new ++ heard_text left) (drop_all i bytes past)) ∙ so_far)

-- the parts of a line, one after the other
pub line_added : (line : NamedLine) (old word name step text new : List ℕ) → word ≡ old ++ codes "heard " → name ≡ word ++ line.thread → step ≡ name ++ (codes " " ++ decimal line.step ++ codes " ")
    → text ≡ step ++ heard_text line.bytes → new ≡ text ++ end_of_line → new ≡ old ++ heard_line line
unfolding heard_line named
line_added line old word name step text new a b c d e =
    e ∙ (ap (λ items. items ++ end_of_line) (d ∙ ap (λ items. items ++ heard_text line.bytes) (c ∙ ap (λ items. items ++ (codes " " ++ decimal line.step ++ codes " ")) (b ∙ ap (λ items. items ++ line.thread) a))) ∙ simp append_assoc)
