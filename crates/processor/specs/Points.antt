-- The calls of a gate.
use Rattle.std.specs.Prelude.{◌≡◌, ℕ, suc, List, [], ◌∷◌}
use Rattle.turn_io.specs.declared.gate.Point.{Point}
use Rattle.turn_io.specs.declared.gate.Point.TheVariants.{Turn, Claimed, Raised, TakeAnswered, Chained}
use Rattle.processor.specs.declared.step_outcome.StepOutcome.{StepOutcome}
use Rattle.processor.specs.declared.step_outcome.StepOutcome.TheVariants as step_outcomes
use Rattle.processor.specs.declared.outcome.TurnResult.TheVariants as hads
use Rattle.processor.specs.declared.outcome.TurnOutcome.{TurnOutcome}
use Rattle.processor.specs.declared.outcome.TurnOutcome.TheVariants as outcomes
use Rattle.processor.specs.declared.shared.Shared.{Shared}
use Rattle.processor.specs.declared.station.Parts.{Parts}
use Rattle.processor.specs.declared.phases.SayAnswer.TheVariants as says
use Rattle.processor.specs.Entries.{LogEntry}
use Rattle.processor.specs.Turns.{TurnOf}

-- What the calls of a gate do. By `observes` the first gate, called at this point of this processor, became the second.
-- By `learns` the first gate got this entry of this processor's log, and became the second
pub record Calls (G : Type 0) : Type 1 where
  pub observes : G → ℕ → Point → G → Type 0
  pub learns : G → ℕ → LogEntry → G → Type 0

abbrev pub calls : {G : Type 0} → (G → ℕ → Point → G → Type 0) → (G → ℕ → LogEntry → G → Type 0) → Calls G
calls observes learns = record { observes = observes; learns = learns }

-- the gate was called at these points, in order, and at no others
abbrev pub GateSaw : {G : Type 0} → (G → ℕ → Point → G → Type 0) → ℕ → List Point → G → G → Type 0
GateSaw T p [] old new = new ≡ old
GateSaw {G} T p (point ∷ points) old new = (between : G) × T old p point between × GateSaw T p points between new

-- the points of a step, by its result: `Claimed` and `Raised` of a say whose line was put, `TakeAnswered` of a hear,
-- and `Chained` of a poke
abbrev pub points_of : StepOutcome → List Point
points_of (step_outcomes.Say queue (says.Put woken)) = Claimed ∷ Raised ∷ []
points_of (step_outcomes.Hear queue answer) = TakeAnswered ∷ []
points_of (step_outcomes.Poke mover answer) = Chained ∷ []
points_of step_outcome = []

-- the points of an element's turn: the points of its step, if one was tried
abbrev pub points_out : TurnOutcome → List Point
points_out (outcomes.OfElement begun (hads.Ran sent)) = points_of sent.tried.step_outcome
points_out outcome = []

-- the gate was called at the points of the turn's step, and then it got the turn's entry
abbrev pub TurnEnded : {G : Type 0} → Calls G → ℕ → LogEntry → G → G → Type 0
TurnEnded {G} T p entry old new =
    (ran : G) × GateSaw T.observes p (points_out entry.outcome) old ran × T.learns ran p entry new

-- the gate was called with the turn's number, then at the points of its step, and then it got the turn's entry
abbrev pub GateSawTurn : {G : Type 0} → Calls G → ℕ → ℕ → LogEntry → G → G → Type 0
GateSawTurn {G} T p number entry old new =
    (begun : G) × T.observes old p (Turn number) begun × TurnEnded T p entry begun new

-- The turns of the log, one after the other, the first with this number. In each the gate was called as `GateSawTurn`
-- says, and otherwise never
abbrev pub HookedTurns : {G : Type 0} → Calls G → Shared → ℕ → ℕ → List LogEntry → Parts → Parts → G → G → Type 0
HookedTurns T shared p number [] old new gate gate' = (new ≡ old) × (gate' ≡ gate)
HookedTurns {G} T shared p number (entry ∷ log) old new gate gate' = (between : Parts) × (reported : G)
    × TurnOf shared p entry old between
    × GateSawTurn T p number entry gate reported
    × HookedTurns T shared p (suc number) log between new reported gate'
