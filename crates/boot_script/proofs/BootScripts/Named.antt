-- A word that is looked up among the words of a boot script.
use Rattle.boot_script.proofs.Common.{◌≡◌, ℕ, ◌<◌, ◌≤◌, ◌+◌, List, ◌∙◌, refl, sym, ap, length, drop, get_or, add-one, true, false, Ok, Err, drop-cons, drop_all, bytes_eq, BootWord, UnknownWord, boot_word, word_named}

-- the word at this place isn't written so, and the others are looked at
pub word_more : (written : List ℕ) (words : List BootWord) (i : ℕ) (d : BootWord) → i < length words → bytes_eq written (boot_word (get_or words i d)) ≡ false → word_named written (drop i words) ≡ word_named written (drop (i + 1) words)
unfolding word_named
word_more written words i d within other = ap (word_named written) (drop-cons words i d within) ∙ (rw other refl ∙ ap (λ n. word_named written (drop n words)) (sym (add-one i)))

pub word_here : (written : List ℕ) (words : List BootWord) (i : ℕ) (d : BootWord) → i < length words → bytes_eq written (boot_word (get_or words i d)) ≡ true → word_named written (drop i words) ≡ Ok (get_or words i d)
unfolding word_named
word_here written words i d within same = ap (word_named written) (drop-cons words i d within) ∙ rw same refl

pub word_nowhere : (written : List ℕ) (words : List BootWord) (i : ℕ) → length words ≤ i → word_named written (drop i words) ≡ Err UnknownWord
unfolding word_named
word_nowhere written words i past = ap (word_named written) (drop_all i words past)
