-- Known bytes that grow in several steps.
use Rattle.boot_script.proofs.Common.{◌≡◌, ℕ, suc, ◌<◌, ◌+◌, List, [], ◌∷◌, ◌++◌, ◌∙◌, sym, ap, subst, append_assoc, length, drop, get_or, add-one, Option, Some, None, Result, drop-cons, append-nil, on_ok_weaker, OnOk, flat_map, slice_get, Appends, numbered_lines}
use Rattle.std.proofs.lemmas.Option.{slice_get_within, get_or_from_slice_get}

pub appends_join : (a b c : Option (List ℕ)) (x y : List ℕ) → Appends a b x → Appends b c y → Appends a c (x ++ y)
appends_join None b c x y h k = tt
appends_join (Some xs) None c x y h k = absurd h
appends_join (Some xs) (Some ys) None x y h k = absurd k
appends_join (Some xs) (Some ys) (Some zs) x y h k = k ∙ (ap (λ ws. ws ++ y) h ∙ append_assoc xs x y)

pub appends_nothing : (a : Option (List ℕ)) → Appends a a []
appends_nothing None = tt
appends_nothing (Some xs) = sym (append-nil xs)

pub lines_more : {A : Type 0} (line : ℕ → A → List ℕ) (old new later : Option (List ℕ)) (i : ℕ) (things : List A) (x : A) → i < length things → x ≡ get_or things i x → Appends old new (line i x)
    → Appends new later (numbered_lines line (i + 1) (drop (i + 1) things)) → Appends old later (numbered_lines line i (drop i things))
lines_more line old new later i things x within is h k =
    let e : drop i things ≡ x ∷ drop (i + 1) things = drop-cons things i x within ∙ (ap (λ y. y ∷ drop (suc i) things) (sym is) ∙ ap (λ n. x ∷ drop n things) (sym (add-one i))) in
    rw e (appends_join old new later (line i x) (numbered_lines line (i + 1) (drop (i + 1) things)) h k)

-- the texts of the things from one on, where that of this one was appended
pub texts_more : {A : Type 0} (text : A → List ℕ) (old new later : Option (List ℕ)) (i : ℕ) (things : List A) (x : A) → slice_get things i ≡ Some x → Appends old new (text x)
    → Appends new later (flat_map text (drop (i + 1) things)) → Appends old later (flat_map text (drop i things))
texts_more text old new later i things x is h k =
    let e : drop i things ≡ x ∷ drop (i + 1) things = drop-cons things i x (slice_get_within things i x is) ∙ (ap (λ y. y ∷ drop (suc i) things) (get_or_from_slice_get things i x x is) ∙ ap (λ n. x ∷ drop n things) (sym (add-one i))) in
    rw e (appends_join old new later (text x) (flat_map text (drop (i + 1) things)) h k)

-- the text that was appended before, and the text that a call appends if it returns Ok
pub then_appends : {A E : Type 0} (result : Result A E) (a b c : Option (List ℕ)) (x y z : List ℕ) → Appends a b x → OnOk result (Appends b c y) → x ++ y ≡ z → OnOk result (Appends a c z)
then_appends result a b c x y z first h e = on_ok_weaker result (λ k. subst (Appends a c) e (appends_join a b c x y first k)) h

-- an appended text, by another name
pub appends_as : (a b : Option (List ℕ)) (x y : List ℕ) → Appends a b x → x ≡ y → Appends a b y
appends_as a b x y h e = subst (Appends a b) e h

-- a word was appended, and then the text after it
pub appends_word : (a b c : Option (List ℕ)) (x word y : List ℕ) → Appends a b x → Appends b c (word ++ y) → Appends a c (x ++ word ++ y)
appends_word a b c x word y h k = subst (Appends a c) (sym (append_assoc x word y)) (appends_join a b c x (word ++ y) h k)
