-- The calls of a gate. T says of two gates that the first, called at this point of this processor, became the second.
use Rattle.std.specs.Prelude.{◌≡◌, ℕ, Result, Ok, Err}
use Rattle.turn_io.specs.declared.gate.Point.{Point}
use Rattle.turn_io.specs.declared.gate.Point.TheVariants.{Claimed, Raised}

-- for a say whose line was put, the gate was called when it was claimed, and then when it was raised; for a refused
-- say, never
abbrev pub HookSawSay : {G A E : Type 0} → (G → ℕ → Point → G → Type 0) → ℕ → Result A E → G → G → Type 0
HookSawSay {G} T p (Ok done) old new = (between : G) × T old p Claimed between × T between p Raised new
HookSawSay T p (Err refusal) old new = new ≡ old
