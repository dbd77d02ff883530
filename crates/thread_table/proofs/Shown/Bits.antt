-- One bit of a number is set, or all from one on are cleared.
use Rattle.thread_table.proofs.Common.{◌≡◌, ◌≢◌, ℕ, ◌-◌, ◌^◌, ◌<◌, ◌≤◌, ◌∙◌, arith, bit_at_and, bit_at-lt, bit_at-pow_other, bit_at, bit_or, bit_and}
use Rattle.std.proofs.lemmas.Nat.Bits.{bit_at_or, bit_at-pow_same, bit_at_ones, bit_at_ones_above}

pub set_bit_same : (word bit : ℕ) → bit_at (bit_or word (2 ^ bit)) bit ≡ 1
set_bit_same word bit = bit_at_or word (2 ^ bit) bit ∙ omega (arith, bit_at-lt word bit, bit_at-pow_same bit)

pub set_bit_other : (word bit i : ℕ) → i ≢ bit → bit_at (bit_or word (2 ^ bit)) i ≡ bit_at word i
set_bit_other word bit i apart = bit_at_or word (2 ^ bit) i ∙ omega (arith, bit_at-pow_other bit i apart)

pub low_bit : (word bits i : ℕ) → i < bits → bit_at (bit_and word (2 ^ bits - 1)) i ≡ bit_at word i
low_bit word bits i below = bit_at_and word (2 ^ bits - 1) i ∙ omega (arith, bit_at-lt word i, bit_at_ones bits i below)

pub high_bit : (word bits i : ℕ) → bits ≤ i → bit_at (bit_and word (2 ^ bits - 1)) i ≡ 0
high_bit word bits i above = bit_at_and word (2 ^ bits - 1) i ∙ omega (arith, bit_at_ones_above bits i above)
