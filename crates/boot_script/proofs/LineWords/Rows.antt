-- Lines of a given number of words.
use Rattle.boot_script.proofs.Common.{◌≡◌, ℕ, ◌<◌, List, [], ◌∷◌, ◌∙◌, refl, ap, subst, arith, length, Result, Ok, ScriptRefusal, ◌>>=◌, first_word, later_words, Reader, no_words, one_word, two_words, three_words, four_words}
use Rattle.boot_script.proofs.Basics.Binds.{bind_ok, last_ok, Known, bind_known, last_known}
use Rattle.boot_script.proofs.LineWords.Readers.{IsReader}

-- a word that isn't empty is there
taken : (words : List (List ℕ)) (word : List ℕ) → first_word words ≡ word → 0 < length word → words ≡ word ∷ later_words words
taken [] word e some = absurd (omega (arith, ap length e))
taken (w ∷ words) word e some = ap (λ x. x ∷ words) e

-- the next word, and the value that the words after it give
pub next_ok : {A B : Type 0} {read : Reader A} {Fits : A → Type 0} {spell : A → List ℕ} (a : IsReader A read Fits spell) (words : List (List ℕ)) (f : A → Result B ScriptRefusal) (y : B) → (read (first_word words) >>= f) ≡ Ok y
    → (x : A) × Fits x × (words ≡ spell x ∷ later_words words) × (f x ≡ Ok y)
next_ok {read = read} {spell = spell} a words f y h =
    let p = bind_ok (read (first_word words)) f y h in
    let k = a.ok (first_word words) p.0 p.1 in
    (p.0, k.0, taken words (spell p.0) k.1 (a.some p.0 k.0), p.2)

pub none_ok : {R : Type 0} (event : R) (words : List (List ℕ)) (P : R → Type 0) → (words ≡ [] → P event) → (said : R) → no_words event words ≡ Ok said → P said
unfolding no_words
none_ok event words P made said h = let l = last_ok words event said h in subst P l.1 (made l.0)

pub one_ok : {A R : Type 0} {read : Reader A} {Fits : A → Type 0} {spell : A → List ℕ} (a : IsReader A read Fits spell) (event : A → R) (words : List (List ℕ)) (P : R → Type 0)
    → ((x : A) → Fits x → words ≡ spell x ∷ [] → P (event x)) → (said : R) → one_word read event words ≡ Ok said → P said
unfolding one_word no_words
one_ok {spell = spell} a event words P made said h =
    let p = next_ok a words (λ x. no_words (event x) (later_words words)) said h in
    none_ok (event p.0) (later_words words) P (λ e. made p.0 p.1 (p.2 ∙ ap (λ ws. spell p.0 ∷ ws) e)) said p.3

pub two_ok : {A B R : Type 0} {read_a : Reader A} {Fits_a : A → Type 0} {spell_a : A → List ℕ} {read_b : Reader B} {Fits_b : B → Type 0} {spell_b : B → List ℕ}
    (a : IsReader A read_a Fits_a spell_a) (b : IsReader B read_b Fits_b spell_b) (event : A → B → R) (words : List (List ℕ)) (P : R → Type 0)
    → ((x : A) (y : B) → Fits_a x → Fits_b y → words ≡ spell_a x ∷ spell_b y ∷ [] → P (event x y)) → (said : R) → two_words read_a read_b event words ≡ Ok said → P said
unfolding two_words one_word
two_ok {spell_a = spell_a} {read_b = read_b} a b event words P made said h =
    let p = next_ok a words (λ x. one_word read_b (event x) (later_words words)) said h in
    one_ok b (event p.0) (later_words words) P (λ y k e. made p.0 y p.1 k (p.2 ∙ ap (λ ws. spell_a p.0 ∷ ws) e)) said p.3

pub three_ok : {A B C R : Type 0} {read_a : Reader A} {Fits_a : A → Type 0} {spell_a : A → List ℕ} {read_b : Reader B} {Fits_b : B → Type 0} {spell_b : B → List ℕ} {read_c : Reader C} {Fits_c : C → Type 0} {spell_c : C → List ℕ}
    (a : IsReader A read_a Fits_a spell_a) (b : IsReader B read_b Fits_b spell_b) (c : IsReader C read_c Fits_c spell_c) (event : A → B → C → R) (words : List (List ℕ)) (P : R → Type 0)
    → ((x : A) (y : B) (z : C) → Fits_a x → Fits_b y → Fits_c z → words ≡ spell_a x ∷ spell_b y ∷ spell_c z ∷ [] → P (event x y z)) → (said : R) → three_words read_a read_b read_c event words ≡ Ok said → P said
unfolding three_words two_words
three_ok {spell_a = spell_a} {read_b = read_b} {read_c = read_c} a b c event words P made said h =
    let p = next_ok a words (λ x. two_words read_b read_c (event x) (later_words words)) said h in
    two_ok b c (event p.0) (later_words words) P (λ y z k l e. made p.0 y z p.1 k l (p.2 ∙ ap (λ ws. spell_a p.0 ∷ ws) e)) said p.3

pub four_ok : {A B C D R : Type 0} {read_a : Reader A} {Fits_a : A → Type 0} {spell_a : A → List ℕ} {read_b : Reader B} {Fits_b : B → Type 0} {spell_b : B → List ℕ} {read_c : Reader C} {Fits_c : C → Type 0} {spell_c : C → List ℕ} {read_d : Reader D} {Fits_d : D → Type 0} {spell_d : D → List ℕ}
    (a : IsReader A read_a Fits_a spell_a) (b : IsReader B read_b Fits_b spell_b) (c : IsReader C read_c Fits_c spell_c) (d : IsReader D read_d Fits_d spell_d) (event : A → B → C → D → R) (words : List (List ℕ)) (P : R → Type 0)
    → ((x : A) (y : B) (z : C) (u : D) → Fits_a x → Fits_b y → Fits_c z → Fits_d u → words ≡ spell_a x ∷ spell_b y ∷ spell_c z ∷ spell_d u ∷ [] → P (event x y z u)) → (said : R) → four_words read_a read_b read_c read_d event words ≡ Ok said → P said
unfolding four_words three_words
four_ok {spell_a = spell_a} {read_b = read_b} {read_c = read_c} {read_d = read_d} a b c d event words P made said h =
    let p = next_ok a words (λ x. three_words read_b read_c read_d (event x) (later_words words)) said h in
    three_ok b c d (event p.0) (later_words words) P (λ y z u k l m e. made p.0 y z u p.1 k l m (p.2 ∙ ap (λ ws. spell_a p.0 ∷ ws) e)) said p.3

pub none_again : {R : Type 0} (event : R) → no_words event [] ≡ Ok event
unfolding no_words
none_again event = refl

pub one_again : {A R : Type 0} {read : Reader A} {Fits : A → Type 0} {spell : A → List ℕ} (a : IsReader A read Fits spell) (event : A → R) (x : A) → Fits x → one_word read event (spell x ∷ []) ≡ Ok (event x)
unfolding one_word
one_again a event x h = rw (a.again x h) refl

pub two_again : {A B R : Type 0} {read_a : Reader A} {Fits_a : A → Type 0} {spell_a : A → List ℕ} {read_b : Reader B} {Fits_b : B → Type 0} {spell_b : B → List ℕ}
    (a : IsReader A read_a Fits_a spell_a) (b : IsReader B read_b Fits_b spell_b) (event : A → B → R) (x : A) (y : B) → Fits_a x → Fits_b y → two_words read_a read_b event (spell_a x ∷ spell_b y ∷ []) ≡ Ok (event x y)
unfolding two_words
two_again a b event x y h k = rw (a.again x h, b.again y k) refl

pub three_again : {A B C R : Type 0} {read_a : Reader A} {Fits_a : A → Type 0} {spell_a : A → List ℕ} {read_b : Reader B} {Fits_b : B → Type 0} {spell_b : B → List ℕ} {read_c : Reader C} {Fits_c : C → Type 0} {spell_c : C → List ℕ}
    (a : IsReader A read_a Fits_a spell_a) (b : IsReader B read_b Fits_b spell_b) (c : IsReader C read_c Fits_c spell_c) (event : A → B → C → R) (x : A) (y : B) (z : C)
    → Fits_a x → Fits_b y → Fits_c z → three_words read_a read_b read_c event (spell_a x ∷ spell_b y ∷ spell_c z ∷ []) ≡ Ok (event x y z)
unfolding three_words
three_again a b c event x y z h k l = rw (a.again x h, b.again y k, c.again z l) refl

pub four_again : {A B C D R : Type 0} {read_a : Reader A} {Fits_a : A → Type 0} {spell_a : A → List ℕ} {read_b : Reader B} {Fits_b : B → Type 0} {spell_b : B → List ℕ} {read_c : Reader C} {Fits_c : C → Type 0} {spell_c : C → List ℕ} {read_d : Reader D} {Fits_d : D → Type 0} {spell_d : D → List ℕ}
    (a : IsReader A read_a Fits_a spell_a) (b : IsReader B read_b Fits_b spell_b) (c : IsReader C read_c Fits_c spell_c) (d : IsReader D read_d Fits_d spell_d) (event : A → B → C → D → R) (x : A) (y : B) (z : C) (u : D)
    → Fits_a x → Fits_b y → Fits_c z → Fits_d u → four_words read_a read_b read_c read_d event (spell_a x ∷ spell_b y ∷ spell_c z ∷ spell_d u ∷ []) ≡ Ok (event x y z u)
unfolding four_words
four_again a b c d event x y z u h k l m = rw (a.again x h, b.again y k, c.again z l, d.again u m) refl

pub none_known : {R : Type 0} (event : R) (words : List (List ℕ)) → Known (no_words event words)
unfolding no_words
none_known event words = last_known words event

pub one_known : {A R : Type 0} {read : Reader A} {Fits : A → Type 0} {spell : A → List ℕ} (a : IsReader A read Fits spell) (event : A → R) (words : List (List ℕ)) → Known (one_word read event words)
unfolding one_word no_words
one_known {read = read} a event words = bind_known (read (first_word words)) (λ x. no_words (event x) (later_words words)) (a.known (first_word words)) (λ x. none_known (event x) (later_words words))

pub two_known : {A B R : Type 0} {read_a : Reader A} {Fits_a : A → Type 0} {spell_a : A → List ℕ} {read_b : Reader B} {Fits_b : B → Type 0} {spell_b : B → List ℕ}
    (a : IsReader A read_a Fits_a spell_a) (b : IsReader B read_b Fits_b spell_b) (event : A → B → R) (words : List (List ℕ)) → Known (two_words read_a read_b event words)
unfolding two_words one_word
two_known {read_a = read_a} {read_b = read_b} a b event words = bind_known (read_a (first_word words)) (λ x. one_word read_b (event x) (later_words words)) (a.known (first_word words)) (λ x. one_known b (event x) (later_words words))

pub three_known : {A B C R : Type 0} {read_a : Reader A} {Fits_a : A → Type 0} {spell_a : A → List ℕ} {read_b : Reader B} {Fits_b : B → Type 0} {spell_b : B → List ℕ} {read_c : Reader C} {Fits_c : C → Type 0} {spell_c : C → List ℕ}
    (a : IsReader A read_a Fits_a spell_a) (b : IsReader B read_b Fits_b spell_b) (c : IsReader C read_c Fits_c spell_c) (event : A → B → C → R) (words : List (List ℕ)) → Known (three_words read_a read_b read_c event words)
unfolding three_words two_words
three_known {read_a = read_a} {read_b = read_b} {read_c = read_c} a b c event words =
    bind_known (read_a (first_word words)) (λ x. two_words read_b read_c (event x) (later_words words)) (a.known (first_word words)) (λ x. two_known b c (event x) (later_words words))

pub four_known : {A B C D R : Type 0} {read_a : Reader A} {Fits_a : A → Type 0} {spell_a : A → List ℕ} {read_b : Reader B} {Fits_b : B → Type 0} {spell_b : B → List ℕ} {read_c : Reader C} {Fits_c : C → Type 0} {spell_c : C → List ℕ} {read_d : Reader D} {Fits_d : D → Type 0} {spell_d : D → List ℕ}
    (a : IsReader A read_a Fits_a spell_a) (b : IsReader B read_b Fits_b spell_b) (c : IsReader C read_c Fits_c spell_c) (d : IsReader D read_d Fits_d spell_d) (event : A → B → C → D → R) (words : List (List ℕ)) → Known (four_words read_a read_b read_c read_d event words)
unfolding four_words three_words
four_known {read_a = read_a} {read_b = read_b} {read_c = read_c} {read_d = read_d} a b c d event words =
    bind_known (read_a (first_word words)) (λ x. three_words read_b read_c read_d (event x) (later_words words)) (a.known (first_word words)) (λ x. three_known b c d (event x) (later_words words))
