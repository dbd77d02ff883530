-- Words of printable bytes with no space, and the lines that are joined of them.
use Rattle.boot_script.proofs.Common.{◌≡◌, ℕ, ◌<◌, ◌^◌, ◌&&◌, List, [], ◌∷◌, ◌++◌, ◌∙◌, refl, ap, arith, true, false, Bool, eqb, nat_tests, decimal_is_IsNumeral, digit_from_value, slice_split-cons_no, slice_split-cons_yes, nat_le, IsInRange, AllByRecursion, join_with_byte, list_all, slice_split, onto_first, AllDigits, decimal, words_of, is_printable}
use Rattle.std.proofs.lemmas.Bool.{and_parts as both}

-- a byte of a word: printable, and no space
unfoldable pub is_plain : ℕ → Bool
is_plain b = nat_le 33 b && nat_le b 126

is_digit_plain : (c : ℕ) → IsInRange 48 57 c → is_plain c ≡ true
unfolding is_plain
is_digit_plain c h = grind (arith, nat_tests, h.0, h.1)

plain_digits : (ds : List ℕ) → AllDigits 10 ds → list_all is_plain ds ≡ true
plain_digits [] h = refl
plain_digits (c ∷ cs) h = rw (is_digit_plain c (digit_from_value c h.0), plain_digits cs h.1) refl

pub plain_decimal : (n : ℕ) → n < 2 ^ 64 → list_all is_plain (decimal n) ≡ true
plain_decimal n small = plain_digits (decimal n) (decimal_is_IsNumeral n small).0.1

plain_parts : (c : ℕ) (cs : List ℕ) → list_all is_plain (c ∷ cs) ≡ true → (is_plain c ≡ true) × (list_all is_plain cs ≡ true)
plain_parts c cs h = both (is_plain c) (list_all is_plain cs) h

no_space : (c : ℕ) → is_plain c ≡ true → eqb c 32 ≡ false
unfolding is_plain
no_space c h = grind (arith, nat_tests, both (nat_le 33 c) (nat_le c 126) h)

printable : (c : ℕ) → is_plain c ≡ true → is_printable c ≡ true
unfolding is_plain
printable c h = grind (arith, nat_tests, both (nat_le 33 c) (nat_le c 126) h)

-- a word with no space is cut off whole
pub cut_word : (word rest : List ℕ) → list_all is_plain word ≡ true → slice_split (λ b. eqb b 32) (word ++ 32 ∷ rest) ≡ word ∷ slice_split (λ b. eqb b 32) rest
cut_word [] rest h = slice_split-cons_yes (λ b. eqb b 32) 32 rest refl
cut_word (c ∷ cs) rest h =
    let p = plain_parts c cs h in
    slice_split-cons_no (λ b. eqb b 32) c (cs ++ 32 ∷ rest) (no_space c p.0) ∙ ap (onto_first c) (cut_word cs rest p.1)

one_word : (word : List ℕ) → list_all is_plain word ≡ true → slice_split (λ b. eqb b 32) word ≡ word ∷ []
one_word [] h = refl
one_word (c ∷ cs) h =
    let p = plain_parts c cs h in
    slice_split-cons_no (λ b. eqb b 32) c cs (no_space c p.0) ∙ ap (onto_first c) (one_word cs p.1)

abbrev pub ArePlain : List (List ℕ) → Type 0
ArePlain words = AllByRecursion (λ word. list_all is_plain word ≡ true) words

pub words_again : (word : List ℕ) (words : List (List ℕ)) → ArePlain (word ∷ words) → words_of (join_with_byte 32 (word ∷ words)) ≡ word ∷ words
words_again word [] h = one_word word h.0
words_again word (next ∷ words) h = cut_word word (join_with_byte 32 (next ∷ words)) h.0 ∙ ap (λ ws. word ∷ ws) (words_again next words h.1)

print_word : (word : List ℕ) → list_all is_plain word ≡ true → list_all is_printable word ≡ true
print_word [] h = refl
print_word (c ∷ cs) h = let p = plain_parts c cs h in rw (printable c p.0, print_word cs p.1) refl

pub print_join : (word rest : List ℕ) → list_all is_plain word ≡ true → list_all is_printable rest ≡ true → list_all is_printable (word ++ 32 ∷ rest) ≡ true
print_join [] rest h k = k
print_join (c ∷ cs) rest h k = let p = plain_parts c cs h in rw (printable c p.0, print_join cs rest p.1 k) refl

pub print_words : (word : List ℕ) (words : List (List ℕ)) → ArePlain (word ∷ words) → list_all is_printable (join_with_byte 32 (word ∷ words)) ≡ true
print_words word [] h = print_word word h.0
print_words word (next ∷ words) h = print_join word (join_with_byte 32 (next ∷ words)) h.0 (print_words next words h.1)

pub plain_name : (letter n : ℕ) → n < 2 ^ 64 → is_plain letter ≡ true → list_all is_plain (letter ∷ decimal n) ≡ true
plain_name letter n small h = rw (h, plain_decimal n small) refl
