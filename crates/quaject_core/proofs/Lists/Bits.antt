-- The number that has a bit for each number of a set.
use Rattle.quaject_core.proofs.Common.{◌≡◌, ℕ, zero, suc, ◌+◌, ◌*◌, ◌-◌, ◌^◌, ◌<◌, ◌≤◌, Bool, true, false, cond, List, get_or, refl, ap, ◌∙◌, arith, set_of, bits_from}
use mir.Val.{bool_byte}
use Rattle.std.proofs.Math.Pow.{pow_mono}

one_bit : (b : Bool) → cond b 1 0 ≤ 1
one_bit true = omega arith
one_bit false = omega arith

-- so many bits
pub bits_below : (count bit : ℕ) (set : ℕ → Bool) → bits_from count bit set < 2 ^ count
bits_below zero bit set = omega arith
bits_below (suc count) bit set = omega (arith, one_bit (set bit), bits_below count (bit + 1) set)

-- one bit more in front
pub bits_more : (bit : ℕ) (set : ℕ → Bool) → bit < 16 → bits_from (16 - bit) bit set ≡ 2 * bits_from (16 - (bit + 1)) (bit + 1) set + cond (set bit) 1 0
bits_more bit set below =
    let e : 16 - bit ≡ suc (16 - (bit + 1)) = omega arith in
    ap (λ n. bits_from n bit set) e ∙ omega arith

one_byte : (b : Bool) → bool_byte b ≡ cond b 1 0
one_byte true = refl
one_byte false = refl

-- the bits from the one before on
pub bits_next : (n bits byte : ℕ) (marks : List Bool) → 0 < n → n ≤ 16 → bits ≡ bits_from (16 - n) n (set_of marks) → byte ≡ bool_byte (get_or marks (n - 1) false)
    → 2 * bits + byte ≡ bits_from (16 - (n - 1)) (n - 1) (set_of marks)
bits_next n bits byte marks some most so_far is =
    let e : n - 1 + 1 ≡ n = omega arith in
    let t : 2 * bits_from (16 - (n - 1 + 1)) (n - 1 + 1) (set_of marks) ≡ 2 * bits_from (16 - n) n (set_of marks) = ap (λ k. 2 * bits_from (16 - k) k (set_of marks)) e in
    omega (arith, bits_more (n - 1) (set_of marks) (omega arith), one_byte (get_or marks (n - 1) false), t)

-- the bits from the one before on fit in 16 bits
pub bits_fit : (n bits byte : ℕ) (marks : List Bool) → 0 < n → n ≤ 16 → bits ≡ bits_from (16 - n) n (set_of marks) → byte ≡ bool_byte (get_or marks (n - 1) false) → 2 * bits + byte < 65536
bits_fit n bits byte marks some most so_far is =
    let wide : 2 ^ (16 - n) ≤ 2 ^ 15 = pow_mono {i = 16 - n} {j = 15} (omega arith) in
    omega (arith, bits_below (16 - n) n (set_of marks), one_byte (get_or marks (n - 1) false), one_bit (get_or marks (n - 1) false))

-- all bits
pub bits_whole : (n bits : ℕ) (marks : List Bool) → n ≤ 0 → bits ≡ bits_from (16 - n) n (set_of marks) → bits ≡ bits_from 16 0 (set_of marks)
bits_whole n bits marks none so_far =
    let e : n ≡ 0 = omega arith in
    so_far ∙ ap (λ k. bits_from (16 - k) k (set_of marks)) e
