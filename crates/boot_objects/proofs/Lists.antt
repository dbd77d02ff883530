-- A list with one element more.
use Rattle.boot_objects.proofs.Common.{◌≡◌, ℕ, zero, suc, ◌+◌, ◌≤◌, List, [], ◌∷◌, ◌++◌, map, length, sym, ap, subst, ◌∙◌, Some, slice_get, map-append, All-push, Shares, both_shares, all_shares, Gave, All}
use Rattle.std.proofs.lemmas.List.{length-append}
use Rattle.boot_objects.proofs.Dealing.{gave_both}
use Rattle.boot_objects.proofs.Summed.{shares_push}

module _ {A : Type 0} where
  -- an element read after a push is the old element, or the new one
  pub each_pushed : (P : ℕ → A → Type 0) (xs new : List A) (x : A) → new ≡ xs ++ x ∷ [] → ((i : ℕ) (y : A) → slice_get xs i ≡ Some y → P i y) → P (length xs) x → (i : ℕ) (y : A) → slice_get new i ≡ Some y → P i y
  each_pushed P xs new x is h p i y e = go P xs h p i y (subst (λ (z : List A). slice_get z i ≡ Some y) is e)
    where
      go : (P : ℕ → A → Type 0) (xs : List A) → ((i : ℕ) (y : A) → slice_get xs i ≡ Some y → P i y) → P (length xs) x → (i : ℕ) (y : A) → slice_get (xs ++ x ∷ []) i ≡ Some y → P i y
      go P [] h p zero y e = let same : x ≡ y = cc in subst (P 0) same p
      go P [] h p (suc i) y e = cc
      go P (a ∷ xs) h p zero y e = h zero y e
      go P (a ∷ xs) h p (suc i) y e = go (λ j. P (suc j)) xs (λ j z f. h (suc j) z f) p i y e

  pub long_pushed : (xs new : List A) (x : A) → new ≡ xs ++ x ∷ [] → length new ≡ length xs + 1
  long_pushed xs new x is = ap length is ∙ length-append xs (x ∷ [])

  pub all_pushed : (P : A → Type 0) (xs new : List A) (x : A) → new ≡ xs ++ x ∷ [] → All P xs → P x → All P new
  all_pushed P xs new x is h p = subst (All P) (sym is) (All-push P xs x h p)

  -- one more gave a part of its own
  pub gave_pushed : (of : A → Shares) (pick : Shares → ℕ → ℕ) → ((s t : Shares) (q : ℕ) → pick (both_shares s t) q ≡ pick s q + pick t q) → (a b n : ℕ) (xs new : List A) (x : A) {old mid last : List ℕ} → new ≡ xs ++ x ∷ [] → a + b ≤ n
      → Gave a (pick (all_shares of xs)) old mid → Gave b (pick (of x)) mid last → Gave n (pick (all_shares of new)) old last
  gave_pushed of pick adds a b n xs new x {old} {mid} {last} is l h g = gave_both a b n (pick (all_shares of xs)) (pick (of x)) (pick (all_shares of new)) old mid last l
      (λ q. ap (λ (s : Shares). pick s q) (ap (all_shares of) is ∙ shares_push of xs x) ∙ adds (all_shares of xs) (of x) q) h g

pub map_pushed : {A B : Type 0} (f : A → B) (xs new : List A) (x : A) (ys : List B) (y : B) → new ≡ xs ++ x ∷ [] → map f xs ≡ ys → f x ≡ y → map f new ≡ ys ++ y ∷ []
map_pushed f xs new x ys y is e e' = ap (map f) is ∙ map-append f xs (x ∷ []) ∙ (λ i. e i ++ e' i ∷ [])
