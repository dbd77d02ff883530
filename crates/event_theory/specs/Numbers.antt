-- The range of the machine's numbers, which have 32 or 64 bits.
use Rattle.std.specs.Prelude.{ℕ}

-- the last number of 32 bits
abbrev pub u32_max : ℕ
u32_max = 4294967295

-- how many numbers have 32 bits: a count of 32 bits is a count modulo this
abbrev pub u32_values : ℕ
u32_values = 4294967296

-- the last number of 64 bits
abbrev pub u64_max : ℕ
u64_max = 18446744073709551615

-- how many numbers have 64 bits: a count of 64 bits is a count modulo this
abbrev pub u64_values : ℕ
u64_values = 18446744073709551616
