-- Two lists are drawn from, one of each at a time, and a third grows by what each two give.
use Rattle.boot_objects.proofs.Common.{◌≡◌, suc, ◌+◌, List, [], ◌∷◌, ◌++◌, map, length, refl, sym, ap, subst, ◌∙◌, arith, append_assoc, nil_from_length, length-append, append-nil, All, AllThree, three_push}

-- so much of each list is drawn, and these are left
pub record Drawn {A B C : Type 0} (R : A → B → C → Type 0) (all : List A) (others : List B) (drawn left : List A) (rest : List B) (made : List C) : Type 0 where
  pub used : List B
  pub first : drawn ++ left ≡ all
  pub second : used ++ rest ≡ others
  pub each : AllThree R drawn used made

module _ {A B C : Type 0} (R : A → B → C → Type 0) where
  pub three_long : (xs : List A) (ys : List B) (zs : List C) → AllThree R xs ys zs → (length ys ≡ length xs) × (length zs ≡ length xs)
  three_long [] [] [] h = (refl, refl)
  three_long [] [] (c ∷ zs) h = absurd h
  three_long [] (b ∷ ys) [] h = absurd h
  three_long [] (b ∷ ys) (c ∷ zs) h = absurd h
  three_long (a ∷ xs) [] [] h = absurd h
  three_long (a ∷ xs) [] (c ∷ zs) h = absurd h
  three_long (a ∷ xs) (b ∷ ys) [] h = absurd h
  three_long (a ∷ xs) (b ∷ ys) (c ∷ zs) h = let l = three_long xs ys zs h.1 in (ap suc l.0, ap suc l.1)

  pub none_drawn : (all : List A) (others : List B) → Drawn R all others [] all others []
  none_drawn all others = record { used = []; first = refl; second = refl; each = tt }

  pub drawn_more : (all : List A) (others : List B) (drawn left : List A) (rest : List B) (made : List C) (a : A) (left' : List A) (b : B) (rest' : List B) (c : C) (made' : List C)
      → Drawn R all others drawn left rest made → left ≡ a ∷ left' → rest ≡ b ∷ rest' → made' ≡ made ++ c ∷ [] → R a b c → Drawn R all others (drawn ++ a ∷ []) left' rest' made'
  drawn_more all others drawn left rest made a left' b rest' c made' d e e' more r = record {
    used = d.used ++ b ∷ [];
    first = append_assoc drawn (a ∷ []) left' ∙ (ap (λ z. drawn ++ z) (sym e) ∙ d.first);
    second = append_assoc d.used (b ∷ []) rest' ∙ (ap (λ z. d.used ++ z) (sym e') ∙ d.second);
    each = subst (AllThree R (drawn ++ a ∷ []) (d.used ++ b ∷ [])) (sym more) (three_push R drawn d.used made a b c d.each r);
  }

  -- as many are left in both
  pub rest_long : (all : List A) (others : List B) (drawn left : List A) (rest : List B) (made : List C) → length others ≡ length all → Drawn R all others drawn left rest made → length rest ≡ length left
  rest_long all others drawn left rest made long d = let l = three_long drawn d.used made d.each in let l0 = l.0 in
      let f = ap length d.first in let s = ap length d.second in let p = length-append drawn left in let q = length-append d.used rest in omega arith

  -- as many are made as were drawn
  pub made_long : (all : List A) (others : List B) (drawn left : List A) (rest : List B) (made : List C) → Drawn R all others drawn left rest made → length made + length left ≡ length all
  made_long all others drawn left rest made d = let l = three_long drawn d.used made d.each in let l1 = l.1 in
      let f = ap length d.first in let p = length-append drawn left in omega arith

  pub all_drawn : (all : List A) (others : List B) (drawn left : List A) (rest : List B) (made : List C) → length others ≡ length all → left ≡ [] → Drawn R all others drawn left rest made → AllThree R all others made
  all_drawn all others drawn left rest made long none d =
      let no_rest : rest ≡ [] = nil_from_length rest (rest_long all others drawn left rest made long d ∙ ap length none) in
      let f : drawn ≡ all = sym (append-nil drawn) ∙ (ap (λ z. drawn ++ z) (sym none) ∙ d.first) in
      let s : d.used ≡ others = sym (append-nil d.used) ∙ (ap (λ z. d.used ++ z) (sym no_rest) ∙ d.second) in
      subst (λ z. AllThree R z others made) f (subst (λ z. AllThree R drawn z made) s d.each)

  -- the next two elements fit, if both lists have the same image
  pub next_fit : {D : Type 0} (f : B → D) (g : A → D) (all : List A) (others : List B) (drawn left : List A) (rest : List B) (made : List C) (a : A) (left' : List A) (b : B) (rest' : List B)
      → map f others ≡ map g all → Drawn R all others drawn left rest made → left ≡ a ∷ left' → rest ≡ b ∷ rest' → f b ≡ g a
  next_fit f g all others drawn left rest made a left' b rest' e d is is' = following drawn d.used (sym (three_long drawn d.used made d.each).0)
      (ap (map f) (ap (λ z. d.used ++ z) (sym is') ∙ d.second) ∙ (e ∙ ap (map g) (sym (ap (λ z. drawn ++ z) (sym is) ∙ d.first))))
    where
      following : (xs : List A) (ys : List B) → length xs ≡ length ys → map f (ys ++ b ∷ rest') ≡ map g (xs ++ a ∷ left') → f b ≡ g a
      following [] [] l h = cc
      following [] (y ∷ ys) l h = absurd (omega arith)
      following (x ∷ xs) [] l h = absurd (omega arith)
      following (x ∷ xs) (y ∷ ys) l h = let h' : map f (ys ++ b ∷ rest') ≡ map g (xs ++ a ∷ left') = cc in following xs ys (omega arith) h'

  pub next_holds : (P : B → Type 0) (all : List A) (others : List B) (drawn left : List A) (rest : List B) (made : List C) (b : B) (rest' : List B)
      → All P others → Drawn R all others drawn left rest made → rest ≡ b ∷ rest' → P b
  next_holds P all others drawn left rest made b rest' h d is = following d.used (subst (All P) (sym (ap (λ z. d.used ++ z) (sym is) ∙ d.second)) h)
    where
      following : (ys : List B) → All P (ys ++ b ∷ rest') → P b
      following [] h = h 0 b (omega arith)
      following (y ∷ ys) h = following ys (λ k d l. h (suc k) d (omega arith))
