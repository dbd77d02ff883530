-- Lists that a loop gathers, of which what is pushed after a refused growth is lost.
use Rattle.boot_script.proofs.Common.{◌≡◌, true, false, cond, Bool, List, [], ◌∷◌, ◌++◌, ◌∙◌, refl, sym, ap, append_assoc, Result, Ok, Err, IsOk, append-nil, ◌>>=◌}

-- what was read before, and what is still read
abbrev pub with_front : {A E : Type 0} → List A → Result (List A) E → Result (List A) E
with_front front said = said >>= λ xs. Ok (front ++ xs)

-- the list so far, which is here as long as each growth was granted, and what is still read are all that is said
pub record IsGathered (A E : Type 0) (kept : Bool) (items : List A) (left said : Result (List A) E) : Type 0 where
  pub front : List A
  pub here : kept ≡ true → items ≡ front
  pub all : with_front front left ≡ said

pub regroup : {A E : Type 0} (front : List A) (x : A) (said : Result (List A) E) → with_front front (said >>= λ xs. Ok (x ∷ xs)) ≡ with_front (front ++ x ∷ []) said
regroup front x (Ok xs) = ap Ok (simp append_assoc)
regroup front x (Err e) = refl

pub all_done : {A E : Type 0} (front : List A) (said : Result (List A) E) → with_front front (Ok []) ≡ said → said ≡ Ok front
all_done front said h = sym h ∙ ap Ok (append-nil front)

pub what_is_ok : {A E : Type 0} (said : Result A E) → IsOk said → (x : A) × (said ≡ Ok x)
what_is_ok (Ok x) h = (x, refl)
what_is_ok (Err e) h = absurd (cc)

pub lost : {A : Type 0} (items front : List A) → false ≡ true → items ≡ front
lost items front h = absurd (cc)

pub none_yet : {A E : Type 0} (said : Result (List A) E) → with_front [] said ≡ said
none_yet (Ok xs) = refl
none_yet (Err e) = refl

-- one more is pushed, or the growth is refused
pub pushed : {A : Type 0} (granted kept : Bool) (new old front : List A) (x : A) → new ≡ cond granted (old ++ x ∷ []) old → kept ≡ granted → old ≡ front → kept ≡ true → new ≡ front ++ x ∷ []
pushed true kept new old front x h e f t = h ∙ ap (λ xs. xs ++ x ∷ []) f
pushed false kept new old front x h e f t = absurd (cc)

pub is_ok_by : {A E : Type 0} (said : Result A E) (x : A) → said ≡ Ok x → IsOk said
is_ok_by (Ok y) x h = refl
is_ok_by (Err e) x h = absurd (cc)
