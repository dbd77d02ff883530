-- The ends of a list are changed one by one, each together with one of a third list.
use Rattle.stations.proofs.Common.{◌≡◌, ℕ, zero, suc, ◌+◌, ◌<◌, ◌≤◌, List, [], ◌∷◌, ◌++◌, map, length, get_or, set, take, refl, sym, ap, subst, ◌∙◌, arith, All, map-append, take_more, take_more_set, take_all, get_or-set_other, AllThree}

module _ {A B C : Type 0} (R : A → B → C → Type 0) where
  pub three_push : (xs : List A) (ys : List B) (zs : List C) (x : A) (y : B) (z : C) → AllThree R xs ys zs → R x y z → AllThree R (xs ++ x ∷ []) (ys ++ y ∷ []) (zs ++ z ∷ [])
  three_push [] [] [] x y z h r = (r, h)
  three_push (a ∷ xs) (b ∷ ys) (c ∷ zs) x y z h r = (h.0, three_push xs ys zs x y z h.1 r)
  three_push _ _ _ x y z h r = absurd h

  -- a relation of the three ends at each place holds at each number, if it holds of the default
  pub at_three : {D : Type 0} (F : A → D) (G : B → D) (H : C → D) (rel : D → D → D → Type 0) (d : D) → rel d d d → ((x : A) (y : B) (z : C) → R x y z → rel (F x) (G y) (H z)) → (xs : List A) (ys : List B) (zs : List C) → AllThree R xs ys zs
      → (q : ℕ) → rel (get_or (map F xs) q d) (get_or (map G ys) q d) (get_or (map H zs) q d)
  at_three F G H rel d n f [] [] [] h q = n
  at_three F G H rel d n f (a ∷ xs) (b ∷ ys) (c ∷ zs) h zero = f a b c h.0
  at_three F G H rel d n f (a ∷ xs) (b ∷ ys) (c ∷ zs) h (suc q) = at_three F G H rel d n f xs ys zs h.1 q
  at_three F G H rel d n f _ _ _ h q = absurd h

  pub all_three : (P : A → Type 0) (S : B → Type 0) (T : C → Type 0) → ((x : A) (y : B) (z : C) → R x y z → P x → T z → S y) → (xs : List A) (ys : List B) (zs : List C) → AllThree R xs ys zs → All P xs → All T zs → All S ys
  all_three P S T f [] [] [] h p t k d l = absurd (omega arith)
  all_three P S T f (a ∷ xs) (b ∷ ys) (c ∷ zs) h p t zero d l = f a b c h.0 (p zero a (omega arith)) (t zero c (omega arith))
  all_three P S T f (a ∷ xs) (b ∷ ys) (c ∷ zs) h p t (suc k) d l =
      all_three P S T f xs ys zs h.1 (λ k d l. p (suc k) d (omega arith)) (λ k d l. t (suc k) d (omega arith)) k d (omega arith)
  all_three P S T f _ _ _ h p t k d l = absurd h

  pub all_third : (T : C → Type 0) → ((x : A) (y : B) (z : C) → R x y z → T z) → (xs : List A) (ys : List B) (zs : List C) → AllThree R xs ys zs → All T zs
  all_third T f [] [] [] h k d l = absurd (omega arith)
  all_third T f (a ∷ xs) (b ∷ ys) (c ∷ zs) h zero d l = f a b c h.0
  all_third T f (a ∷ xs) (b ∷ ys) (c ∷ zs) h (suc k) d l = all_third T f xs ys zs h.1 k d (omega arith)
  all_third T f _ _ _ h k d l = absurd h

-- the first i ends are changed, each with its third, and the others are unchanged
pub record AsFar {E : Type 0} (R : E → E → E → Type 0) (old now third : List E) (i : ℕ) : Type 0 where
  pub done : AllThree R (take i old) (take i now) third
  pub rest : (k : ℕ) (d : E) → i ≤ k → get_or now k d ≡ get_or old k d
  pub long : length now ≡ length old

module _ {E : Type 0} (R : E → E → E → Type 0) where
  pub begun : (old : List E) → AsFar R old old [] 0
  begun old = record { done = tt; rest = λ k d l. refl; long = refl }

  pub walk_on : (old now third : List E) (i : ℕ) (end after x : E) → i < length now → end ≡ get_or now i end → R end after x → AsFar R old now third i → AsFar R old (set now i after) (third ++ x ∷ []) (i + 1)
  walk_on old now third i end after x below is r w = let long = w.long in record {
    done =
        let was : get_or old i end ≡ end = sym (w.rest i end (omega arith)) ∙ sym is in
        let old_more : take i old ++ end ∷ [] ≡ take (i + 1) old = ap (λ (z : E). take i old ++ z ∷ []) (sym was) ∙ sym (take_more old i end (omega arith)) in
        let now_more : take i now ++ after ∷ [] ≡ take (i + 1) (set now i after) = sym (take_more_set now i after below) in
        subst (λ (z : List E). AllThree R z (take (i + 1) (set now i after)) (third ++ x ∷ [])) old_more
        (subst (λ (z : List E). AllThree R (take i old ++ end ∷ []) z (third ++ x ∷ [])) now_more (three_push R (take i old) (take i now) third end after x w.done r));
    rest = λ k d l. get_or-set_other now i k after d (λ e. absurd (omega arith)) ∙ w.rest k d (omega arith);
    long = length_set now i after ∙ long;
  }
    where
      length_set : (l : List E) (i : ℕ) (a : E) → length (set l i a) ≡ length l
      length_set [] i a = refl
      length_set (x ∷ l) zero a = refl
      length_set (x ∷ l) (suc i) a = ap suc (length_set l i a)

  pub walked : (old now third : List E) (i : ℕ) → length old ≤ i → AsFar R old now third i → AllThree R old now third
  walked old now third i all w = let long = w.long in
      subst (λ (z : List E). AllThree R z now third) (take_all i old all) (subst (λ (z : List E). AllThree R (take i old) z third) (take_all i now (omega arith)) w.done)

  -- a fact about each end holds of the next
  pub next_holds : (P : E → Type 0) (old now third : List E) (i : ℕ) (end : E) → i < length now → end ≡ get_or now i end → All P old → AsFar R old now third i → P end
  next_holds P old now third i end below is all w = let long = w.long in subst P (sym (is ∙ w.rest i end (omega arith))) (all i end (omega arith))

-- one more, of the next table
pub tables_more : {E O D : Type 0} (f : E → D) (g : O → D) (ends new : List E) (objects : List O) (i : ℕ) (end : E) (object : O) → map f ends ≡ map g (take i objects) → new ≡ ends ++ end ∷ [] → f end ≡ g object → i < length objects → object ≡ get_or objects i object
    → map f new ≡ map g (take (i + 1) objects)
tables_more f g ends new objects i end object e more same below is =
    ap (map f) more ∙ (map-append f ends (end ∷ []) ∙ ((λ k. e k ++ same k ∷ []) ∙ (sym (map-append g (take i objects) (object ∷ [])) ∙ ap (map g) (ap (λ z. take i objects ++ z ∷ []) is ∙ sym (take_more objects i object below)))))

-- the element after the first ones
pub next_of : {E : Type 0} (first rest all : List E) (x : E) → first ++ (x ∷ rest) ≡ all → (x ≡ get_or all (length first) x) × (length first < length all)
next_of first rest all x e = subst (λ z. (x ≡ get_or z (length first) x) × (length first < length z)) e (here first, below first)
  where
    here : (l : List _) → x ≡ get_or (l ++ (x ∷ rest)) (length l) x
    here [] = refl
    here (y ∷ l) = here l

    below : (l : List _) → length l < length (l ++ (x ∷ rest))
    below [] = omega arith
    below (y ∷ l) = let h = below l in omega arith
