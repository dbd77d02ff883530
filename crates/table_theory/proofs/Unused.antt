-- A step on a word that has a use leaves the others at 0.
use Rattle.table_theory.proofs.Common.{◌≡◌, ℕ, List, get_or, get_or-set_other, set, sym, refl, subst, ◌∙◌}
use Rattle.std.proofs.Common.{replicate, zero, suc}
use Rattle.table_theory.specs.Unused.{AreZero}

-- a word with a use becomes y
pub unused_kept : (IsUsed : ℕ → Type 0) (words : List ℕ) (i y : ℕ) → IsUsed i → AreZero IsUsed words → AreZero IsUsed (set words i y)
unused_kept IsUsed words i y used zeros word unused = get_or-set_other words i word y 0 (λ e. unused (subst IsUsed (sym e) used)) ∙ zeros word unused

-- if all words have one number, each has it
pub all_alike : (n x i : ℕ) → get_or (replicate n x) i x ≡ x
all_alike zero x i = refl
all_alike (suc n) x zero = refl
all_alike (suc n) x (suc i) = all_alike n x i
