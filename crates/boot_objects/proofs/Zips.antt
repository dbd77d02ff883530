-- What holds of two lists, place by place.
use Rattle.boot_objects.proofs.Common.{◌≡◌, ℕ, zero, suc, List, [], ◌∷◌, map, get_or, refl, AllZip, All-nil, All-cons, All}

module _ {A B : Type 0} (R : A → B → Type 0) where
  pub zip_weaker : (S : A → B → Type 0) → ((x : A) (y : B) → R x y → S x y) → (xs : List A) (ys : List B) → AllZip R xs ys → AllZip S xs ys
  zip_weaker S f [] [] h = h
  zip_weaker S f [] (y ∷ ys) h = absurd h
  zip_weaker S f (x ∷ xs) [] h = absurd h
  zip_weaker S f (x ∷ xs) (y ∷ ys) h = (f x y h.0, zip_weaker S f xs ys h.1)

  -- a property that R gives of each element of one list holds of all elements of that list
  pub zip_first : (P : A → Type 0) → ((x : A) (y : B) → R x y → P x) → (xs : List A) (ys : List B) → AllZip R xs ys → All P xs
  zip_first P f [] [] h = All-nil P
  zip_first P f [] (y ∷ ys) h = absurd h
  zip_first P f (x ∷ xs) [] h = absurd h
  zip_first P f (x ∷ xs) (y ∷ ys) h = All-cons P x xs (f x y h.0) (zip_first P f xs ys h.1)

  pub zip_second : (P : B → Type 0) → ((x : A) (y : B) → R x y → P y) → (xs : List A) (ys : List B) → AllZip R xs ys → All P ys
  zip_second P f [] [] h = All-nil P
  zip_second P f [] (y ∷ ys) h = absurd h
  zip_second P f (x ∷ xs) [] h = absurd h
  zip_second P f (x ∷ xs) (y ∷ ys) h = All-cons P y ys (f x y h.0) (zip_second P f xs ys h.1)

  pub zip_same : {C : Type 0} (f : A → C) (g : B → C) → ((x : A) (y : B) → R x y → g y ≡ f x) → (xs : List A) (ys : List B) → AllZip R xs ys → map g ys ≡ map f xs
  zip_same f g e [] [] h = refl
  zip_same f g e [] (y ∷ ys) h = absurd h
  zip_same f g e (x ∷ xs) [] h = absurd h
  zip_same f g e (x ∷ xs) (y ∷ ys) h = λ i. e x y h.0 i ∷ zip_same f g e xs ys h.1 i

  -- if a value is the same for all elements, the mapped list has it at each place
  pub zip_each : {C : Type 0} (g : B → C) (d : C) → ((x : A) (y : B) → R x y → g y ≡ d) → (xs : List A) (ys : List B) → AllZip R xs ys → (q : ℕ) → get_or (map g ys) q d ≡ d
  zip_each g d e [] [] h q = refl
  zip_each g d e [] (y ∷ ys) h q = absurd h
  zip_each g d e (x ∷ xs) [] h q = absurd h
  zip_each g d e (x ∷ xs) (y ∷ ys) h zero = e x y h.0
  zip_each g d e (x ∷ xs) (y ∷ ys) h (suc q) = zip_each g d e xs ys h.1 q
