-- A word that has a number below 2 ^ bits, and this bit if something is marked.
use Rattle.table_theory.proofs.Common.{◌≡◌, ℕ, ◌+◌, ◌<◌, Bool, true, false, ◌∙◌, refl, ap, arith, if◌then◌else◌, nat_lt}
use Rattle.std.proofs.Common.{◌^◌, ◌*◌}
use Rattle.std.proofs.lemmas.Bool.{le-ltb, lt-ltb}
use Rattle.std.proofs.lemmas.Nat.{or_block, or_comm}
use Rattle.std.specs.Int.Bits.{bit_or}

module _ (bits : ℕ) (mark : Bool → ℕ) (marks : mark true ≡ 2 ^ bits) (none : mark false ≡ 0) where
  -- a word without the mark is the number, of what isn't marked
  pub unmarked : (b : Bool) (n w : ℕ) → w ≡ n + mark b → w < 2 ^ bits → (b ≡ false) × (w ≡ n)
  unmarked true n w is low = absurd (omega arith)
  unmarked false n w is low = (refl, omega arith)

  or_nothing : (h : ℕ) → bit_or h 0 ≡ h
  or_nothing h = or_comm h 0

  -- the mark is set, whether it was set or not
  pub marked : (h : ℕ) (b : Bool) → h < 2 ^ bits → bit_or (h + mark b) (2 ^ bits) ≡ h + 2 ^ bits
  marked h true fits = let a : h + mark true ≡ 1 * 2 ^ bits + h = omega arith in let b : 2 ^ bits ≡ 1 * 2 ^ bits + 0 = omega arith in let z = or_nothing h in (λ k. bit_or (a k) (b k)) ∙ or_block bits 1 1 h 0 fits (omega arith) ∙ (omega arith)
  marked h false fits = let a : h + mark false ≡ 0 * 2 ^ bits + h = omega arith in let b : 2 ^ bits ≡ 1 * 2 ^ bits + 0 = omega arith in let z = or_nothing h in (λ k. bit_or (a k) (b k)) ∙ or_block bits 0 1 h 0 fits (omega arith) ∙ (omega arith)

  -- it is marked once then, whoever marked it
  pub marked_once : (b : Bool) (n y : ℕ) → y ≡ n + mark b → n < 2 ^ bits → (if b then 1 else 0) + (if nat_lt y (2 ^ bits) then 1 else 0) ≡ 1
  marked_once true n y is bounded = ap (λ (z : Bool). 1 + (if z then 1 else 0)) (le-ltb y (2 ^ bits) (omega arith))
  marked_once false n y is bounded = ap (λ (z : Bool). 0 + (if z then 1 else 0)) (lt-ltb y (2 ^ bits) (omega arith))
