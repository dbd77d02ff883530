-- The number of items of lines, modulo 2^64, when a line is added.
use Rattle.quajects.proofs.Common.{◌≡◌, ℕ, ◌+◌, ◌*◌, ◌/◌, ◌%◌, ◌^◌, ◌<◌, List, [], ◌∷◌, ◌++◌, length, take, slice_index_or, append_assoc, refl, sym, ap, ◌∙◌, arith, length-append, Bool, true, false, if◌then◌else◌, concat, flat_map, append-nil, take_more, flat_map-append, false≢true, held_line, counted}
use Rattle.std.proofs.lemmas.List.Folds.{concat-append}
use Rattle.std.proofs.Math.Nat.{add-mul-mod_self_left, div-add-mod}

pub mod_add : (m a b : ℕ) → (a % m + b) % m ≡ (a + b) % m
mod_add m a b = let e : a % m + b + m * (a / m) ≡ a + b = (let d = div-add-mod a m in let x : ℕ = m * (a / m) in let d' : x + a % m ≡ a = d in omega arith) in
    sym (add-mul-mod_self_left (a % m + b) m (a / m)) ∙ ap (λ (z : ℕ). z % m) e

concat_held : (line : List ℕ) → concat (held_line line) ≡ line
concat_held [] = refl
concat_held (x ∷ xs) = append-nil (x ∷ xs)

length_more : (old : List (List ℕ)) (line : List ℕ) → length (concat (old ++ line ∷ [])) ≡ length (concat old) + length line
length_more old line = ap length (concat-append old (line ∷ [])) ∙ length-append (concat old) (line ++ []) ∙ ap (λ (z : List ℕ). length (concat old) + length z) (append-nil line)

length_held : (old : List (List ℕ)) (line : List ℕ) → length (concat (old ++ held_line line)) ≡ length (concat old) + length line
length_held old line = ap length (concat-append old (held_line line)) ∙ length-append (concat old) (concat (held_line line)) ∙ ap (λ (z : List ℕ). length (concat old) + length z) (concat_held line)

pub counted_held : (n : ℕ) (old new : List (List ℕ)) (line : List ℕ) → n ≡ counted old → new ≡ old ++ held_line line → (n + length line) % 2 ^ 64 ≡ counted new
counted_held n old new line is e = ap (λ (z : ℕ). (z + length line) % 2 ^ 64) is ∙ mod_add (2 ^ 64) (length (concat old)) (length line)
    ∙ ap (λ (z : ℕ). z % 2 ^ 64) (sym (length_held old line)) ∙ ap counted (sym e)

pub counted_more : (n : ℕ) (old new : List (List ℕ)) (line : List ℕ) (b : Bool) → n ≡ counted old → b ≡ true → new ≡ (if b then old ++ line ∷ [] else old) → (n + length line) % 2 ^ 64 ≡ counted new
counted_more n old new line true is is_put e = ap (λ (z : ℕ). (z + length line) % 2 ^ 64) is ∙ mod_add (2 ^ 64) (length (concat old)) (length line)
    ∙ ap (λ (z : ℕ). z % 2 ^ 64) (sym (length_more old line)) ∙ ap counted (sym e)
counted_more n old new line false is is_put e = absurd (false≢true is_put)

pub counted_both : (m n : ℕ) (xs ys : List (List ℕ)) → m ≡ counted xs → n ≡ counted ys → (m + n) % 2 ^ 64 ≡ counted (xs ++ ys)
counted_both m n xs ys p q = let a : ℕ = length (concat xs) in let b : ℕ = length (concat ys) in
    ap (λ (z : ℕ). (z + n) % 2 ^ 64) p ∙ mod_add (2 ^ 64) a n
    ∙ ap (λ (z : ℕ). (a + z) % 2 ^ 64) q ∙ ap (λ (z : ℕ). z % 2 ^ 64) (let w : ℕ = counted ys in let e : a + w ≡ w + a = omega arith in e) ∙ mod_add (2 ^ 64) b a
    ∙ ap (λ (z : ℕ). z % 2 ^ 64) (let e : b + a ≡ a + b = omega arith in e)
    ∙ ap (λ (z : ℕ). z % 2 ^ 64) (sym (length-append (concat xs) (concat ys)) ∙ ap length (sym (concat-append xs ys)))

-- the items put at one place more
pub counted_place : {A : Type 0} (f : A → List (List ℕ)) (xs : List (List ℕ)) (l : List A) (i : ℕ) (d : A) (m n : ℕ) → i < length l → m ≡ counted (xs ++ flat_map f (take i l)) → n ≡ counted (f (slice_index_or l i d))
    → (m + n) % 2 ^ 64 ≡ counted (xs ++ flat_map f (take (i + 1) l))
counted_place f xs l i d m n below is one = let x = slice_index_or l i d in
    counted_both m n (xs ++ flat_map f (take i l)) (f x) is one
    ∙ ap counted (append_assoc xs (flat_map f (take i l)) (f x)
    ∙ ap (λ (z : List (List ℕ)). xs ++ (flat_map f (take i l) ++ z)) (sym (append-nil (f x)))
    ∙ ap (λ (z : List (List ℕ)). xs ++ z) (sym (flat_map-append f (take i l) (x ∷ [])))
    ∙ ap (λ z. xs ++ flat_map f z) (sym (take_more l i d below)))
