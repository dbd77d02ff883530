-- The items of a claim, one after the other.
use Rattle.boot_script.proofs.Common.{◌≡◌, true, false, cond, Bool, ℕ, ◌≤◌, ◌<◌, List, [], ◌∷◌, ◌++◌, ◌∙◌, refl, sym, ap, subst, arith, length, Result, Ok, Err, nat_tests, nat_le, ScriptRefusal, BadNumber, TooMany, ◌>>=◌, number_of, first_word, later_words, numbers_of, at_most_of, items_of, Fails}
use Rattle.boot_script.proofs.Basics.Gathered.{with_front, regroup}

pub number_more : (most n : ℕ) (front : List ℕ) (words : List (List ℕ)) (said : Result (List ℕ) ScriptRefusal) → (words ≡ [] → ⊥) → Ok n ≡ number_of most (first_word words)
    → with_front front (numbers_of most words) ≡ said → with_front (front ++ n ∷ []) (numbers_of most (later_words words)) ≡ said
number_more most n front [] said some h so_far = absurd (some refl)
number_more most n front (word ∷ words) said some h so_far = sym (regroup front n (numbers_of most words)) ∙ (ap (λ r. with_front front (r >>= λ m. numbers_of most words >>= λ ns. Ok (m ∷ ns))) h ∙ so_far)

number_refused : (most : ℕ) (e : ScriptRefusal) (front : List ℕ) (words : List (List ℕ)) (said : Result (List ℕ) ScriptRefusal) → (words ≡ [] → ⊥) → Err e ≡ number_of most (first_word words)
    → with_front front (numbers_of most words) ≡ said → said ≡ Err e
number_refused most e front [] said some h so_far = absurd (some refl)
number_refused most e front (word ∷ words) said some h so_far = sym so_far ∙ ap (λ r. with_front front (r >>= λ m. numbers_of most words >>= λ ns. Ok (m ∷ ns))) (sym h)

bad_test : (b : Bool) (n : ℕ) (e : ScriptRefusal) → Err e ≡ cond b (Ok n) (Err BadNumber) → e ≡ BadNumber
bad_test true n e h = absurd (cc)
bad_test false n e h = cc

-- a word is refused as a number by BadNumber alone
pub bad_number : (most : ℕ) (word : List ℕ) (e : ScriptRefusal) → Err e ≡ number_of most word → e ≡ BadNumber
unfolding number_of
bad_number most word e h = bad_test _ _ e h

pub items_refused : (e : ScriptRefusal) (front : List ℕ) (words all : List (List ℕ)) → (words ≡ [] → ⊥) → Err e ≡ number_of 18446744073709551615 (first_word words)
    → with_front front (numbers_of 18446744073709551615 words) ≡ numbers_of 18446744073709551615 all → Fails e (items_of all)
items_refused e front words all some h so_far =
    let bad = bad_number 18446744073709551615 (first_word words) e h in
    let said = number_refused 18446744073709551615 e front words (numbers_of 18446744073709551615 all) some h so_far in
    let here : items_of all ≡ Err BadNumber = rw (said, bad) refl in
    subst (λ x. Fails x (items_of all)) (sym bad) here

at_most_by : (b : Bool) (front : List ℕ) → nat_le (length front) 256 ≡ b → (at_most_of 256 front >>= λ end. Ok front) ≡ cond b (Ok front) (Err TooMany)
at_most_by true front h = rw h refl
at_most_by false front h = rw h refl

pub items_ok : (words : List (List ℕ)) (front : List ℕ) → numbers_of 18446744073709551615 words ≡ Ok front → length front ≤ 256 → items_of words ≡ Ok front
items_ok words front h few = let test : nat_le (length front) 256 ≡ true = grind (arith, nat_tests) in rw h (at_most_by true front test)

pub items_many : (words : List (List ℕ)) (front : List ℕ) → numbers_of 18446744073709551615 words ≡ Ok front → 256 < length front → items_of words ≡ Err TooMany
items_many words front h many = let test : nat_le (length front) 256 ≡ false = grind (arith, nat_tests) in rw h (at_most_by false front test)
