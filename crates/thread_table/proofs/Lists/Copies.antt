-- A list of one entry, so many times over.
use Rattle.thread_table.proofs.Common.{◌≡◌, ℕ, zero, suc, true, false, [], ◌∷◌, length, get_or, refl, ap, Some, slice_get, repeat}

pub length-copies : {X : Type 0} (count : ℕ) (x : X) → length (repeat count (x ∷ [])) ≡ count
length-copies zero x = refl
length-copies (suc count) x = ap suc (length-copies count x)

-- also past the last one, where the entry is the one that is used for none
pub get_or-copies : {X : Type 0} (count : ℕ) (x : X) (i : ℕ) → get_or (repeat count (x ∷ [])) i x ≡ x
get_or-copies zero x i = refl
get_or-copies (suc count) x zero = refl
get_or-copies (suc count) x (suc i) = get_or-copies count x i

-- if one of as many marks is set, the entry is there
pub slice_get-copies_by : {X : Type 0} (count : ℕ) (x : X) (i : ℕ) → get_or (repeat count (true ∷ [])) i false ≡ true → slice_get (repeat count (x ∷ [])) i ≡ Some x
slice_get-copies_by zero x i set = absurd (cc)
slice_get-copies_by (suc count) x zero set = refl
slice_get-copies_by (suc count) x (suc i) set = slice_get-copies_by count x i set
