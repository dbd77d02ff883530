-- The notes of two ports, in whatever order they came, have each port's bytes in its order.
use Rattle.std.proofs.Common.{◌≡◌, ℕ, suc, zero, ◌+◌, ◌<◌, true, false, List, [], ◌∷◌, ◌++◌, ◌∙◌, map, length, get_or, set, refl, sym, ap, subst, arith}
use Rattle.std.specs.List.{concat}
use Rattle.std.proofs.lemmas.Bool.{lt-ltb, le-ltb}
use Rattle.std.proofs.Math.Nat.{mod-eq_of_lt}
use mathlib.Core.Option.{some, some-injective, some-ne-none}
use lib.ListN.{get_elem?}
use Rattle.proc_chain.specs.Notes.{alone}
use Rattle.table_theory.specs.Interleaving.{Interleaves}
use Rattle.serial.specs.Notes.{is_first, byte_of, first_bytes, second_bytes, notes_for}

-- ONE NOTE

first_here : (x : ℕ) (notes : List ℕ) → x < 256 → first_bytes ((0 + x) ∷ notes) ≡ x ∷ first_bytes notes
first_here x notes low = let z : 0 + x ≡ x = omega arith in let t : is_first (0 + x) ≡ true = lt-ltb (0 + x) 256 (omega arith) in
    rw t (ap (λ (b : ℕ). b ∷ first_bytes notes) (ap byte_of z ∙ mod-eq_of_lt low))

first_there : (x : ℕ) (notes : List ℕ) → x < 256 → second_bytes ((0 + x) ∷ notes) ≡ second_bytes notes
first_there x notes low = let t : is_first (0 + x) ≡ true = lt-ltb (0 + x) 256 (omega arith) in rw t refl

second_here : (x : ℕ) (notes : List ℕ) → x < 256 → second_bytes ((256 + x) ∷ notes) ≡ x ∷ second_bytes notes
second_here x notes low = let t : is_first (256 + x) ≡ false = le-ltb (256 + x) 256 (omega arith) in
    let z : byte_of (256 + x) ≡ x = omega arith in rw t (ap (λ (b : ℕ). b ∷ second_bytes notes) z)

second_there : (x : ℕ) (notes : List ℕ) → x < 256 → first_bytes ((256 + x) ∷ notes) ≡ first_bytes notes
second_there x notes low = let t : is_first (256 + x) ≡ false = le-ltb (256 + x) 256 (omega arith) in rw t refl

-- ALL NOTES

abbrev pub Small : List ℕ → Type 0
Small [] = Unit {0}
Small (x ∷ xs) = (x < 256) × Small xs

abbrev notes_at : ℕ → List ℕ → List (List ℕ)
notes_at port xs = map alone (notes_for port xs)

-- each port's bytes are in the notes, and nothing else
abbrev pub Hold : List ℕ → List ℕ → List ℕ → Type 0
Hold notes xs ys = (first_bytes notes ≡ xs) × (second_bytes notes ≡ ys) × (length notes ≡ length xs + length ys)

abbrev head_or : List ℕ → List (List ℕ) → List ℕ
head_or l [] = l
head_or l (x ∷ xs) = x

abbrev tail_or : List (List ℕ) → List (List ℕ)
tail_or [] = []
tail_or (x ∷ xs) = xs

none : (port : ℕ) (xs : List ℕ) → notes_at port xs ≡ [] → xs ≡ []
none port [] e = refl
none port (x ∷ xs) e = absurd cc

from_first : (l : List ℕ) (order : List (List ℕ)) (xs ys : List ℕ) (rest : List (List ℕ)) → Small xs → notes_at 0 xs ≡ l ∷ rest → Interleaves order (rest ∷ notes_at 256 ys ∷ [])
    → ((xs' : List ℕ) → Small xs' → Interleaves order (notes_at 0 xs' ∷ notes_at 256 ys ∷ []) → Hold (concat order) xs' ys) → Hold (concat (l ∷ order)) xs ys
from_first l order [] ys rest small e i further = absurd cc
from_first l order (x ∷ xs) ys rest small e i further =
    let l_is : (0 + x) ∷ [] ≡ l = ap (head_or []) e in
    let rest_is : notes_at 0 xs ≡ rest = ap tail_or e in
    let h = further xs small.1 (subst (λ (z : List (List ℕ)). Interleaves order (z ∷ notes_at 256 ys ∷ [])) (sym rest_is) i) in
    subst (λ (z : List ℕ). Hold (z ++ concat order) (x ∷ xs) ys) l_is (
      first_here x (concat order) small.0 ∙ ap (λ (z : List ℕ). x ∷ z) h.0,
      first_there x (concat order) small.0 ∙ h.1,
      (let n = h.2 in omega arith),
    )

from_second : (l : List ℕ) (order : List (List ℕ)) (xs ys : List ℕ) (rest : List (List ℕ)) → Small ys → notes_at 256 ys ≡ l ∷ rest → Interleaves order (notes_at 0 xs ∷ rest ∷ [])
    → ((ys' : List ℕ) → Small ys' → Interleaves order (notes_at 0 xs ∷ notes_at 256 ys' ∷ []) → Hold (concat order) xs ys') → Hold (concat (l ∷ order)) xs ys
from_second l order xs [] rest small e i further = absurd cc
from_second l order xs (y ∷ ys) rest small e i further =
    let l_is : (256 + y) ∷ [] ≡ l = ap (head_or []) e in
    let rest_is : notes_at 256 ys ≡ rest = ap tail_or e in
    let h = further ys small.1 (subst (λ (z : List (List ℕ)). Interleaves order (notes_at 0 xs ∷ z ∷ [])) (sym rest_is) i) in
    subst (λ (z : List ℕ). Hold (z ++ concat order) xs (y ∷ ys)) l_is (
      second_there y (concat order) small.0 ∙ h.0,
      second_here y (concat order) small.0 ∙ ap (λ (z : List ℕ). y ∷ z) h.1,
      (let n = h.2 in omega arith),
    )

-- the first note is that of one of the two
front : (l : List ℕ) (order : List (List ℕ)) (xs ys : List ℕ) → Small xs → Small ys → (k : ℕ) (rest : List (List ℕ)) → get_elem? (notes_at 0 xs ∷ notes_at 256 ys ∷ []) k ≡ some (l ∷ rest)
    → Interleaves order (set (notes_at 0 xs ∷ notes_at 256 ys ∷ []) k rest)
    → ((xs' ys' : List ℕ) → Small xs' → Small ys' → Interleaves order (notes_at 0 xs' ∷ notes_at 256 ys' ∷ []) → Hold (concat order) xs' ys') → Hold (concat (l ∷ order)) xs ys
front l order xs ys a b zero rest at more further = from_first l order xs ys rest a (some-injective (notes_at 0 xs) (l ∷ rest) at) more (λ xs' a' i. further xs' ys a' b i)
front l order xs ys a b (suc zero) rest at more further = from_second l order xs ys rest b (some-injective (notes_at 256 ys) (l ∷ rest) at) more (λ ys' b' i. further xs ys' a b' i)
front l order xs ys a b (suc (suc k)) rest at more further = absurd (some-ne-none (l ∷ rest) (sym at))

pub both : (order : List (List ℕ)) (xs ys : List ℕ) → Small xs → Small ys → Interleaves order (notes_at 0 xs ∷ notes_at 256 ys ∷ []) → Hold (concat order) xs ys
both [] xs ys a b i = let x : xs ≡ [] = none 0 xs (i 0 (notes_at 0 xs) refl) in let y : ys ≡ [] = none 256 ys (i 1 (notes_at 256 ys) refl) in
    (sym x, sym y, (let m : length xs ≡ 0 = ap length x in let n : length ys ≡ 0 = ap length y in omega arith))
both (l ∷ order) xs ys a b i = front l order xs ys a b i.0 i.1 i.2 i.3 (λ xs' ys' a' b' i'. both order xs' ys' a' b' i')

pub small : (xs : List ℕ) → ((k : ℕ) → get_or xs k 0 < 256) → Small xs
small [] h = tt
small (x ∷ xs) h = (h 0, small xs (λ k. h (suc k)))
