-- Words that are compared byte by byte, from their ends on.
use Rattle.boot_script.proofs.Common.{◌≡◌, ◌<◌, ◌≤◌, ◌+◌, ℕ, zero, suc, List, ◌∷◌, ◌∙◌, sym, ap, arith, length, drop, get_or, add-one, true, false, drop-cons, false_from_ne_true, drop_all, bytes_eq-Decides, bytes_eq}

pub other_length : (xs ys : List ℕ) → (length xs ≡ length ys → ⊥) → bytes_eq xs ys ≡ false
other_length xs ys h = false_from_ne_true (bytes_eq xs ys) (λ same. h (ap length ((bytes_eq-Decides xs ys).0 same)))

pub other_byte : (xs ys : List ℕ) (i : ℕ) → (get_or xs i 0 ≡ get_or ys i 0 → ⊥) → bytes_eq xs ys ≡ false
other_byte xs ys i h = false_from_ne_true (bytes_eq xs ys) (λ same. h (ap (λ bytes. get_or bytes i 0) ((bytes_eq-Decides xs ys).0 same)))

-- nothing is left after all bytes
pub same_none : (xs ys : List ℕ) → length xs ≡ length ys → drop (length xs) xs ≡ drop (length xs) ys
same_none xs ys e = drop_all (length xs) xs (omega arith) ∙ sym (drop_all (length xs) ys (omega (arith, e)))

-- words that are equal from `left` on and at the byte before it are equal from that byte on
pub same_from : (xs ys : List ℕ) (left i : ℕ) → left ≡ i + 1 → left ≤ length xs → left ≤ length ys → get_or xs i 0 ≡ get_or ys i 0 → drop left xs ≡ drop left ys → drop i xs ≡ drop i ys
same_from xs ys left i e within within' byte rest =
    let next : left ≡ suc i = e ∙ add-one i in
    let following : drop (suc i) xs ≡ drop (suc i) ys = sym (ap (λ n. drop n xs) next) ∙ (rest ∙ ap (λ n. drop n ys) next) in
    drop-cons xs i 0 (omega (arith, within, e)) ∙ (ap (λ b. b ∷ drop (suc i) xs) byte ∙ (ap (λ bytes. get_or ys i 0 ∷ bytes) following ∙ sym (drop-cons ys i 0 (omega (arith, within', e)))))

pub same_whole : (xs ys : List ℕ) (left : ℕ) → left ≤ 0 → drop left xs ≡ drop left ys → bytes_eq xs ys ≡ true
same_whole xs ys zero none same = (bytes_eq-Decides xs ys).1 same
same_whole xs ys (suc i) none same = absurd (omega (arith, none))
