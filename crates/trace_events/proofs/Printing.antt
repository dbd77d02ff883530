-- Events that are printed in several steps.
use Rattle.trace_events.proofs.Common.{◌≡◌, ◌<◌, ◌≤◌, ◌+◌, ℕ, zero, suc, length, arith, refl, drop, get_or, add-one, List, [], ◌∷◌, ◌++◌, ◌∙◌, sym, ap, subst, append-nil, map, Option, Result, Appends-trans, Appends-nil, flat_map-append, drop_all, on_ok_weaker, OnOk, Json, HasNumbers, depth, json_text, later_texts, IsEvent, Prints, numbered_events}
use Rattle.std.proofs.Math.Seq.{drop-cons}
use Rattle.std.specs.Io.KnownBytes.{Appends}
use Rattle.trace_events.proofs.Growing.{all_append}

pub prints_join : (a b c : Option (List ℕ)) (xs ys : List Json) → Prints a b xs → Prints b c ys → Prints a c (xs ++ ys)
prints_join a b c xs ys h k = record {
  text = subst (Appends a c) (sym (flat_map-append (λ event. 44 ∷ json_text event) xs ys)) (Appends-trans a b c (later_texts xs) (later_texts ys) h.text k.text);
  numbers = all_append HasNumbers xs ys h.numbers k.numbers;
  shallow = all_append (λ event. depth event ≤ 2) xs ys h.shallow k.shallow;
}

pub prints_nothing : (a : Option (List ℕ)) → Prints a a []
prints_nothing a = record { text = Appends-nil a; numbers = tt; shallow = tt }

pub then_prints : {A E : Type 0} (result : Result A E) (a b c : Option (List ℕ)) (xs ys : List Json) → Prints a b xs → OnOk result (Prints b c ys) → OnOk result (Prints a c (xs ++ ys))
then_prints result a b c xs ys h k = on_ok_weaker result (λ l. prints_join a b c xs ys h l) k

-- an event was printed after another one
pub prints_shown : (a b : Option (List ℕ)) (text shown : List ℕ) (event : Json) → IsEvent text event → shown ≡ text → Appends a b (44 ∷ shown) → Prints a b (event ∷ [])
prints_shown a b text shown event h e k = record {
  text = subst (Appends a b) (sym (append-nil (44 ∷ json_text event))) (subst (λ w. Appends a b (44 ∷ w)) (e ∙ h.is) k);
  numbers = (h.numbers, tt);
  shallow = (h.shallow, tt);
}

-- an event is printed after another one
pub prints_text : {A E : Type 0} (result : Result A E) (a b : Option (List ℕ)) (text shown : List ℕ) (event : Json) → IsEvent text event → shown ≡ text → OnOk result (Appends a b (44 ∷ shown)) → OnOk result (Prints a b (event ∷ []))
prints_text result a b text shown event h e k = on_ok_weaker result (λ l. prints_shown a b text shown event h e l) k

some_item : {A : Type 0} (things : List A) (i : ℕ) → i < length things → (x : A) × (x ≡ get_or things i x)
some_item [] i h = absurd (omega arith)
some_item (x ∷ things) zero h = (x, refl)
some_item (x ∷ things) (suc i) h = some_item things i (omega arith)

-- the events of a thing, and of those after it
pub events_more : {A : Type 0} (events : ℕ → A → List Json) (a b c : Option (List ℕ)) (i : ℕ) (things : List A) (x : A) → i < length things → x ≡ get_or things i x
    → Prints a b (events i x) → Prints b c (numbered_events events (i + 1) (drop (i + 1) things)) → Prints a c (numbered_events events i (drop i things))
events_more events a b c i things x within is h k =
    let e : drop i things ≡ x ∷ drop (i + 1) things = drop-cons things i x within ∙ (ap (λ y. y ∷ drop (suc i) things) (sym is) ∙ ap (λ n. x ∷ drop n things) (sym (add-one i))) in
    rw e (prints_join a b c (events i x) (numbered_events events (i + 1) (drop (i + 1) things)) h k)

-- the events of what is had of a thing, and of those after it
pub mapped_more : {A B : Type 0} (of : A → B) (events : ℕ → B → List Json) (a b c : Option (List ℕ)) (i : ℕ) (things : List A) (x : A) → i < length things → x ≡ get_or things i x
    → Prints a b (events i (of x)) → Prints b c (numbered_events events (i + 1) (map of (drop (i + 1) things))) → Prints a c (numbered_events events i (map of (drop i things)))
mapped_more of events a b c i things x within is h k =
    let e : drop i things ≡ x ∷ drop (i + 1) things = drop-cons things i x within ∙ (ap (λ y. y ∷ drop (suc i) things) (sym is) ∙ ap (λ n. x ∷ drop n things) (sym (add-one i))) in
    rw e (prints_join a b c (events i (of x)) (numbered_events events (i + 1) (map of (drop (i + 1) things))) h k)

-- the same, of events that are those of any thing with this number
pub mapped_each : {A B : Type 0} (of : A → B) (events : ℕ → B → List Json) (a b c : Option (List ℕ)) (i : ℕ) (things : List A) → i < length things → ((x : B) → Prints a b (events i x))
    → Prints b c (numbered_events events (i + 1) (map of (drop (i + 1) things))) → Prints a c (numbered_events events i (map of (drop i things)))
mapped_each of events a b c i things within h k =
    let some = some_item things i within in
    mapped_more of events a b c i things some.0 within some.1 (h (of some.0)) k

-- nothing is left to be printed
pub events_done : {A : Type 0} (events : ℕ → A → List Json) (a : Option (List ℕ)) (i : ℕ) (things : List A) → length things ≤ i → Prints a a (numbered_events events i (drop i things))
events_done events a i things h = rw (drop_all i things h) (prints_nothing a)

pub mapped_done : {A B : Type 0} (of : A → B) (events : ℕ → B → List Json) (a : Option (List ℕ)) (i : ℕ) (things : List A) → length things ≤ i → Prints a a (numbered_events events i (map of (drop i things)))
mapped_done of events a i things h = rw (drop_all i things h) (prints_nothing a)

-- the text that was appended before, and the text that a call appends if it returns Ok
pub then_appends : {A E : Type 0} (result : Result A E) (a b c : Option (List ℕ)) (x y z : List ℕ) → Appends a b x → OnOk result (Appends b c y) → x ++ y ≡ z → OnOk result (Appends a c z)
then_appends result a b c x y z first h e = on_ok_weaker result (λ k. subst (Appends a c) e (Appends-trans a b c x y first k)) h
