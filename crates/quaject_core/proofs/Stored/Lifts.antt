-- What an event makes of a part, and so of the whole.
use Rattle.quaject_core.proofs.Common.{◌≡◌, ℕ, zero, suc, ◌+◌, ◌<◌, List, [], ◌∷◌, ◌++◌, ◌∙◌, map, length, set, get_or, refl, sym, ap, ap₂, subst, Result, Ok, Err, add-one, IsOk, IsErrAnd, repeat, map-append, map-set_same, ◌>>=◌, at, change_at, IsWhy, Changes, Refusal, OutOfMemory}
use Rattle.quaject_core.proofs.Stored.Elements.{found_at, shown_at, shown_set}

-- the reason of a refused part is the reason of the refused whole
pub why_given : {A B : Type 0} (e : Refusal) (said : Result A Refusal) (whole : Result B Refusal) → (said ≡ Err e → whole ≡ Err e) → (IsOk said → IsOk whole) → IsWhy e said → IsWhy e whole
why_given OutOfMemory said whole refused fine why = fine why
why_given e said whole refused fine why = refused why

fine_then : {A B : Type 0} (said : Result A Refusal) (f : A → B) → IsOk said → IsOk (said >>= λ x. Ok (f x))
fine_then (Ok x) f fine = fine
fine_then (Err e) f fine = fine

-- the reason of a refused result is the reason of a function of the result
pub why_then : {A B : Type 0} (e : Refusal) (said : Result A Refusal) (f : A → B) → IsWhy e said → IsWhy e (said >>= λ x. Ok (f x))
why_then e said f why = why_given e said (said >>= λ x. Ok (f x)) (λ is. ap (λ s. s >>= λ x. Ok (f x)) is) (fine_then said f) why

-- what is shown of a place
pub at_there : {A B : Type 0} (f : A → B) (items : List A) (k : ℕ) (here : A) → k < length items → here ≡ get_or items k here → at k (map f items) ≡ Ok (f here)
at_there f items k here below is = rw (shown_at f items k here (found_at items k k here refl below is)) refl

-- a change of what is shown of a place
pub place_changes : {A B : Type 0} (f : A → B) (result : Result (Unit {0}) Refusal) (change : B → Result B Refusal) (items : List A) (k : ℕ) (old new : A)
    → k < length items → old ≡ get_or items k old → Changes result (change (f old)) (f old) (f new)
    → Changes result (change_at k change (map f items)) (map f items) (map f (set items k new))
place_changes f (Ok done) change items k old new below is changes =
    ap (λ said. said >>= change >>= λ x. Ok (set (map f items) k x)) (at_there f items k old below is)
    ∙ (ap (λ said. said >>= λ x. Ok (set (map f items) k x)) changes ∙ ap Ok (sym (shown_set f items k k new (f new) refl refl)))
place_changes f (Err e) change items k old new below is changes = (
  map-set_same f items k new old (changes.0 ∙ ap f is),
  subst (λ said. IsWhy e (said >>= change >>= λ x. Ok (set (map f items) k x))) (sym (at_there f items k old below is)) (why_then e (change (f old)) (λ x. set (map f items) k x) changes.1),
)

repeat-suc : {A : Type 0} (n : ℕ) (x : A) → x ∷ repeat n (x ∷ []) ≡ repeat n (x ∷ []) ++ x ∷ []
repeat-suc zero x = refl
repeat-suc (suc n) x = ap (λ xs. x ∷ xs) (repeat-suc n x)

-- one more of the same
pub repeat_more : {A : Type 0} (n : ℕ) (x : A) → repeat (n + 1) (x ∷ []) ≡ repeat n (x ∷ []) ++ x ∷ []
repeat_more n x = ap (λ k. repeat k (x ∷ [])) (add-one n) ∙ repeat-suc n x

-- what is shown after one more is pushed
pub shown_push : {A B : Type 0} (f : A → B) (xs ys : List A) (new : A) (shown : List B) (y : B) → ys ≡ xs ++ new ∷ [] → map f xs ≡ shown → f new ≡ y → map f ys ≡ shown ++ y ∷ []
shown_push f xs ys new shown y more so_far is =
    ap (map f) more ∙ (map-append f xs (new ∷ []) ∙ ap₂ (λ zs z. zs ++ z ∷ []) so_far is)

-- an error that was passed on
pub changes_err : {A : Type 0} (passed : Result (Unit {0}) Refusal) (e : Refusal) (said : Result A Refusal) (old new : A) → IsErrAnd passed (λ x. x ≡ e) → new ≡ old → IsWhy e said → Changes passed said old new
changes_err (Ok done) e said old new is same why = absurd is
changes_err (Err x) e said old new is same why = (same, subst (λ y. IsWhy y said) (sym is) why)

pub ok_of : {A : Type 0} (said : Result A Refusal) → IsOk said → (x : A) × (said ≡ Ok x)
ok_of (Ok x) fine = (x, refl)
ok_of (Err e) fine = absurd (cc)
