-- A buffer that is filled place by place.
use Rattle.bindings.proofs.Calls.{◌≡◌, ◌<◌, ◌≤◌, ℕ, zero, suc, ◌+◌, List, [], ◌∷◌, ◌++◌, length, take, drop, set, refl}
use Rattle.bindings.proofs.Calls.{sym, ap, subst, ◌∙◌, arith, IsKeptFrom}
use Rattle.std.proofs.Math.Seq.{take-suc-set}
use Rattle.std.proofs.lemmas.List.{drop-set-lt}
use Rattle.claim_queue.specs.Own.{View}
use Rattle.claim_queue.specs.Takings.{TookItems, IsLine}

drop_one : (n : ℕ) (xs : List ℕ) → drop (suc n) xs ≡ drop 1 (drop n xs)
drop_one zero xs = refl
drop_one (suc n) [] = refl
drop_one (suc n) (x ∷ xs) = drop_one n xs

length_set : (xs : List ℕ) (i x : ℕ) → length (set xs i x) ≡ length xs
length_set [] i x = refl
length_set (y ∷ xs) zero x = refl
length_set (y ∷ xs) (suc i) x = ap suc (length_set xs i x)

pub kept_more : (i x : ℕ) (old new : List ℕ) → IsKeptFrom i old new → IsKeptFrom (i + 1) old (set new i x)
kept_more i x old new h = let e : suc i ≡ i + 1 = omega arith in subst (λ (n : ℕ). IsKeptFrom n old (set new i x)) e
    (drop-set-lt (suc i) new i x (omega arith) ∙ drop_one i new ∙ ap (drop 1) h.0 ∙ sym (drop_one i old), length_set new i x ∙ h.1)

pub filled_more : (i x : ℕ) (new : List ℕ) → i < length new → take (i + 1) (set new i x) ≡ take i new ++ x ∷ []
filled_more i x new l = let e : suc i ≡ i + 1 = omega arith in subst (λ (n : ℕ). take n (set new i x) ≡ take i new ++ x ∷ []) e (take-suc-set new i x l)

-- the line that was copied to the beginning of the buffer
pub line_filled : (n : ℕ) (v w : View) (k : ℕ) (line old new : List ℕ) → k ≡ length line → length line ≤ n → take (length line) new ≡ line → IsKeptFrom (length line) old new
    → IsLine n line → TookItems n v line w → (k ≤ n) × IsLine n (take k new) × IsKeptFrom k old new × TookItems n v (take k new) w
line_filled n v w k line old new e small copied kept is took = let same : line ≡ take k new = sym (ap (λ (z : ℕ). take z new) e ∙ copied) in
    (subst (λ (z : ℕ). z ≤ n) (sym e) small, subst (IsLine n) same is, subst (λ (z : ℕ). IsKeptFrom z old new) (sym e) kept, subst (λ (z : List ℕ). TookItems n v z w) same took)
