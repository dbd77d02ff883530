-- The time of a turn, by what a read of the clock gave.
use Rattle.std.specs.Prelude.{◌≡◌, ◌-◌, ◌^◌, ℕ, Result, Ok, Err, min, max}
use Rattle.std.specs.Duration.{as_nanos}
use Rattle.std.specs.declared.io.Error.{Error}
use Rattle.std.specs.declared.time.Duration.{Duration}

-- the time after the time `last`, if a read of the clock gave this answer: its nanoseconds, at most 2^64 - 1, or `last`
-- if these are less, or if the clock returned an error
abbrev pub IsTimeOf : Result Duration Error → ℕ → ℕ → Type 0
IsTimeOf (Ok span) last time = time ≡ max (min (as_nanos span) (2 ^ 64 - 1)) last
IsTimeOf (Err error) last time = time ≡ last
