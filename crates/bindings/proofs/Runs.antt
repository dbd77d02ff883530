-- Runs of bytes of which none is passed.
use Rattle.std.proofs.Common.{append-nil}
use Rattle.bindings.proofs.Calls.{◌≡◌, ◌∙◌, ◌++◌, ◌∷◌, ℕ, List, [], length, take, drop, refl, sym, subst, arith}

nothing_more : (l bytes : List ℕ) → l ++ take 0 bytes ≡ l
nothing_more l [] = append-nil l
nothing_more l (x ∷ xs) = append-nil l

all_dropped : (l : List ℕ) → drop 0 l ≡ l
all_dropped [] = refl
all_dropped (x ∷ xs) = refl

-- if none of the bytes is passed, the bytes that were passed are those from before
pub none_passed : (n : ℕ) (now before bytes : List ℕ) → n ≡ 0 → now ≡ before ++ take n bytes → now ≡ before
none_passed n now before bytes none is = subst (λ (z : ℕ). now ≡ before ++ take z bytes) none is ∙ nothing_more before bytes

-- if none of a buffer is filled, and its rest stays, all of it stays
pub none_filled : (n : ℕ) (new old : List ℕ) → n ≡ 0 → drop n new ≡ drop n old → new ≡ old
none_filled n new old none rest = sym (all_dropped new) ∙ subst (λ (z : ℕ). drop z new ≡ drop z old) none rest ∙ all_dropped old

pub none_known : (l : List ℕ) → length l ≡ 0 → l ≡ []
none_known [] e = refl
none_known (x ∷ xs) e = absurd (omega arith)
