-- A list of which the first so many were changed, one after the other.
use Rattle.quaject_core.proofs.Common.{◌≡◌, ℕ, zero, suc, ◌+◌, ◌<◌, ◌≤◌, Bool, not, cond, ltb, Some, None, position, List, [], ◌∷◌, ◌++◌, ◌∙◌, map, length, take, drop, set, get_or, refl, sym, ap, ap₂, arith, add-one, append-nil, take_all, drop_all, length-map, list_any, prefix_len}

-- the list after the first so many were changed
abbrev pub mapped : {A : Type 0} → (A → A) → ℕ → List A → List A
mapped f zero xs = xs
mapped f (suc i) [] = []
mapped f (suc i) (x ∷ xs) = f x ∷ mapped f i xs

-- the next item is not changed yet
pub get_or-mapped : {A : Type 0} (f : A → A) (i : ℕ) (xs : List A) (d : A) → get_or (mapped f i xs) i d ≡ get_or xs i d
get_or-mapped f zero xs d = refl
get_or-mapped f (suc i) [] d = refl
get_or-mapped f (suc i) (x ∷ xs) d = get_or-mapped f i xs d

mapped-suc : {A : Type 0} (f : A → A) (i : ℕ) (xs : List A) (d : A) → i < length xs → set (mapped f i xs) i (f (get_or xs i d)) ≡ mapped f (suc i) xs
mapped-suc f i [] d below = absurd (omega arith)
mapped-suc f zero (x ∷ xs) d below = refl
mapped-suc f (suc i) (x ∷ xs) d below = ap (λ ys. f x ∷ ys) (mapped-suc f i xs d (omega arith))

-- one more is changed
pub mapped_more : {A : Type 0} (f : A → A) (i : ℕ) (xs : List A) (d : A) → i < length xs → set (mapped f i xs) i (f (get_or xs i d)) ≡ mapped f (i + 1) xs
mapped_more f i xs d below = mapped-suc f i xs d below ∙ ap (λ n. mapped f n xs) (sym (add-one i))

-- all are changed
pub mapped_all : {A : Type 0} (f : A → A) (i : ℕ) (xs : List A) → length xs ≤ i → mapped f i xs ≡ map f xs
mapped_all f zero [] past = refl
mapped_all f zero (x ∷ xs) past = absurd (omega arith)
mapped_all f (suc i) [] past = refl
mapped_all f (suc i) (x ∷ xs) past = ap (λ ys. f x ∷ ys) (mapped_all f i xs (omega arith))

pub length-mapped : {A : Type 0} (f : A → A) (i : ℕ) (xs : List A) → length (mapped f i xs) ≡ length xs
length-mapped f zero xs = refl
length-mapped f (suc i) [] = refl
length-mapped f (suc i) (x ∷ xs) = ap suc (length-mapped f i xs)

-- a list that is written back whole
pub written_back : {A : Type 0} (n : ℕ) (xs ys zs : List A) → xs ≡ zs → length xs ≡ length ys → length ys ≡ n → take n (xs ++ drop (length xs) ys) ≡ zs
written_back n xs ys zs is same len =
    ap (λ tail. take n (xs ++ tail)) (drop_all (length xs) ys (omega arith)) ∙ (ap (take n) (append-nil xs) ∙ (take_all n xs (omega arith) ∙ is))

-- the next is changed
pub mapped_set : {A : Type 0} (f : A → A) (i : ℕ) (xs ys : List A) (y d : A) → ys ≡ mapped f i xs → y ≡ f (get_or ys i d) → i < length xs → set ys i y ≡ mapped f (i + 1) xs
mapped_set f i xs ys y d so_far is below =
    let e : y ≡ f (get_or xs i d) = is ∙ ap f (ap (λ zs. get_or zs i d) so_far ∙ get_or-mapped f i xs d) in
    ap₂ (λ zs z. set zs i z) so_far e ∙ mapped_more f i xs d below

prefix_len_map : {A B : Type 0} (p : B → Bool) (f : A → B) (xs : List A) → prefix_len p (map f xs) ≡ prefix_len (λ x. p (f x)) xs
prefix_len_map p f [] = refl
prefix_len_map p f (x ∷ xs) = ap (λ n. cond (p (f x)) (1 + n) 0) (prefix_len_map p f xs)

-- a search in what is shown is one in what is stored
pub position_map : {A B : Type 0} (p : B → Bool) (f : A → B) (xs : List A) → position p (map f xs) ≡ position (λ x. p (f x)) xs
position_map p f xs = ap₂ (λ n len. cond (ltb n len) (Some n) None) (prefix_len_map (λ y. not (p y)) f xs) (length-map xs f)

pub list_any_map : {A B : Type 0} (p : B → Bool) (f : A → B) (xs : List A) → list_any p (map f xs) ≡ list_any (λ x. p (f x)) xs
list_any_map p f [] = refl
list_any_map p f (x ∷ xs) = rw (list_any_map p f xs) refl
