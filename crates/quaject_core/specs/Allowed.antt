-- The result of an event that was checked before.
use Rattle.std.specs.Prelude.{Result, Ok, Err}
use Rattle.event_theory.specs.declared.refusal.Refusal.{Refusal}

-- the expected result: the new value if nothing was refused, else the refusal
abbrev pub allowed : {A : Type 0} → Result (Unit {0}) Refusal → A → Result A Refusal
allowed (Ok done) new = Ok new
allowed (Err refusal) new = Err refusal
