-- Lines that end in a text.
use Rattle.boot_script.proofs.Common.{◌≡◌, inl, inr, ℕ, ◌≤◌, List, [], ◌∷◌, ◌++◌, ◌∙◌, refl, sym, ap, subst, arith, length, true, false, Ok, eqb, nat_tests, join_with_byte-slice_split, slice_split-cons_no, slice_split-cons_yes, nat_le, list_all, join_with_byte, onto_first, TextTooLong, ◌>>=◌, pieces, words_of, is_printable, bytes_of, within_of, text_of, IsText, EndsInText}
use Rattle.std.proofs.lemmas.Bool.{and_parts as both}
use Rattle.boot_script.proofs.Basics.Bools.{either}
use Rattle.boot_script.proofs.Basics.Binds.{bind_ok, guard_ok}
use Rattle.boot_script.proofs.Escaping.Escapes.{text_ok, text_again, text_printable}
use Rattle.boot_script.proofs.LineWords.Plain.{is_plain, ArePlain, cut_word, print_join, print_words, words_again}
use Rattle.boot_script.proofs.Escaping.Unescaped.{fits_within}

plain_byte : (byte : ℕ) → is_printable byte ≡ true → eqb byte 32 ≡ false → is_plain byte ≡ true
unfolding is_plain
plain_byte byte h other = grind (arith, nat_tests, other, both (nat_le 32 byte) (nat_le byte 126) h)

plain_onto : (byte : ℕ) (words : List (List ℕ)) → is_plain byte ≡ true → ArePlain words → ArePlain (onto_first byte words)
plain_onto byte [] h plain = (rw h refl, tt)
plain_onto byte (word ∷ words) h plain = (rw (h, plain.0) refl, plain.1)

-- the words of a line of printable bytes have no space
pub plain_words : (line : List ℕ) → list_all is_printable line ≡ true → ArePlain (words_of line)
plain_words [] h = (refl, tt)
plain_words (byte ∷ line) h =
    let k = both (is_printable byte) (list_all is_printable line) h in
    elim (either (eqb byte 32)) [
      | inl p ↦ subst ArePlain (sym (slice_split-cons_yes (λ b. eqb b 32) byte line p)) (refl, plain_words line k.1)
      | inr p ↦ subst ArePlain (sym (slice_split-cons_no (λ b. eqb b 32) byte line p)) (plain_onto byte (words_of line) (plain_byte byte k.0 p) (plain_words line k.1))
    ]

printable_words : (words : List (List ℕ)) → ArePlain words → list_all is_printable (join_with_byte 32 words) ≡ true
printable_words [] plain = refl
printable_words (word ∷ words) plain = print_words word words plain

no_bytes : (bytes : List ℕ) → IsText bytes [] → bytes ≡ []
unfolding bytes_of
no_bytes bytes h = let e : Ok [] ≡ bytes_of [] = refl in let f : bytes_of [] ≡ Ok bytes = text_again [] bytes h in cc

-- the words after two words are a text, or there are none
pub ends_ok : (most : ℕ) (first second : List ℕ) (words : List (List ℕ)) (bytes : List ℕ) → ArePlain words → text_of most words ≡ Ok bytes
    → (length bytes ≤ most) × EndsInText (first ∷ second ∷ []) bytes (join_with_byte 32 (first ∷ second ∷ words))
ends_ok most first second [] bytes plain h =
    let a = bind_ok (bytes_of []) (λ bytes. within_of most bytes) bytes h in
    let g = guard_ok (nat_le (length a.0) most) a.0 bytes TextTooLong a.2 in
    let test : nat_le (length a.0) most ≡ true = g.0 in
    let few : length a.0 ≤ most = grind (arith, nat_tests) in
    (subst (λ xs. length xs ≤ most) g.1 few, inr (no_bytes bytes (text_ok [] bytes refl (a.1 ∙ ap Ok g.1)), refl))
ends_ok most first second (word ∷ words) bytes plain h =
    let text = join_with_byte 32 (word ∷ words) in
    let a = bind_ok (bytes_of text) (λ bytes. within_of most bytes) bytes h in
    let g = guard_ok (nat_le (length a.0) most) a.0 bytes TextTooLong a.2 in
    let test : nat_le (length a.0) most ≡ true = g.0 in
    let few : length a.0 ≤ most = grind (arith, nat_tests) in
    (subst (λ xs. length xs ≤ most) g.1 few, inl (text, text_ok text bytes (printable_words (word ∷ words) plain) (a.1 ∙ ap Ok g.1), refl))

-- a text is read again
text_of_again : (most : ℕ) (text bytes : List ℕ) → IsText bytes text → length bytes ≤ most → text_of most (pieces 32 text) ≡ Ok bytes
text_of_again most text bytes h few =
    ap (λ t. bytes_of t >>= λ bytes. within_of most bytes) (join_with_byte-slice_split 32 text)
    ∙ (ap (λ r. r >>= λ bytes. within_of most bytes) (text_again text bytes h) ∙ fits_within most bytes few)

no_text_again : (most : ℕ) (bytes : List ℕ) → bytes ≡ [] → text_of most [] ≡ Ok bytes
unfolding bytes_of
no_text_again most bytes h = fits_within most [] (omega arith) ∙ ap Ok (sym h)

-- a line that ends in a text is printable, and its words are two and then those of the text
pub ends_again : (most : ℕ) (first second bytes line : List ℕ) → list_all is_plain first ≡ true → list_all is_plain second ≡ true → length bytes ≤ most → EndsInText (first ∷ second ∷ []) bytes line
    → (words : List (List ℕ)) × (list_all is_printable line ≡ true) × (words_of line ≡ first ∷ second ∷ words) × (text_of most words ≡ Ok bytes)
ends_again most first second bytes line plain_first plain_second few (inl p) = (
  pieces 32 p.0,
  ap (list_all is_printable) p.2 ∙ print_join first (second ++ 32 ∷ p.0) plain_first (print_join second p.0 plain_second (text_printable p.0 bytes p.1)),
  ap words_of p.2 ∙ (cut_word first (second ++ 32 ∷ p.0) plain_first ∙ ap (λ ws. first ∷ ws) (cut_word second p.0 plain_second)),
  text_of_again most p.0 bytes p.1 few,
)
ends_again most first second bytes line plain_first plain_second few (inr p) = (
  [],
  ap (list_all is_printable) p.1 ∙ print_words first (second ∷ []) (plain_first, (plain_second, tt)),
  ap words_of p.1 ∙ words_again first (second ∷ []) (plain_first, (plain_second, tt)),
  no_text_again most bytes p.0,
)
