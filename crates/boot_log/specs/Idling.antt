-- Idle turns.
use Rattle.std.specs.Prelude.{◌==◌, ◌&&◌, Bool, true, false}
use Rattle.turn_dispatch.specs.declared.dispatch.Idle.TheVariants.{NothingReady, Parked, ParkLost}
use Rattle.boot_log.specs.declared.entry.Did.{Did}
use Rattle.boot_log.specs.declared.entry.Did.TheVariants.{Idle, Retired, Stepped}
use Rattle.boot_log.specs.declared.entry.Entry.{Entry}

-- whether nothing was at hand
abbrev pub has_nothing : Did → Bool
has_nothing (Idle (NothingReady refusal)) = true
has_nothing (Idle (Parked element)) = false
has_nothing (Idle (ParkLost element lost ready)) = false
has_nothing (Retired begun freed) = false
has_nothing (Stepped begun tried counted moved line) = false

-- whether a turn was idle: nothing was at hand, and no alarm was fired
abbrev pub is_idle : Entry → Bool
is_idle entry = has_nothing entry.did && (entry.fired.len == 0)
