-- The notes that are handed out, and the inbox of the end that runs them.
use Rattle.bindings.proofs.Calls.{◌≡◌, ◌<◌, ℕ, pred, List, [], ◌∷◌, ◌++◌, length, refl, sym, ap}
use Rattle.std.proofs.Math.Nat.{suc-ne-zero}
use Rattle.std.proofs.Math.Arith.{lt-one}
use Rattle.proc_chain.specs.Servings.{Use, took, failed, notes_run}
use Rattle.bindings.specs.Inboxes.{last_or}

-- the last number of a list is the one that was added last
pub last_on : (first : ℕ) (notes : List ℕ) (note : ℕ) → last_or first (notes ++ note ∷ []) ≡ note
last_on first [] note = refl
last_on first (x ∷ xs) note = last_on x xs note

-- if none of the limit was used, no note was run
pub none_run : (uses : List Use) → length uses < 1 → length (notes_run (uses ++ [])) ≡ 0
none_run [] h = refl
none_run (u ∷ us) h = absurd (suc-ne-zero (length us) (lt-one h))

-- if one of the limit was used and a note was run, that note was the only one
pub one_run : (uses : List Use) → length uses ≡ 1 → (length (notes_run (uses ++ [])) ≡ 0 → ⊥) → (note : ℕ) × (notes_run (uses ++ []) ≡ note ∷ [])
one_run [] h ran = absurd (suc-ne-zero 0 (sym h))
one_run (took note tail m n o ∷ []) h ran = (note, refl)
one_run (failed tail word gate m n o p ∷ []) h ran = absurd (ran refl)
one_run (u ∷ v ∷ us) h ran = absurd (suc-ne-zero (length us) (ap pred h))
