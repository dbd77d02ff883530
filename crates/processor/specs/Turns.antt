-- The turns of a processor.
use Rattle.std.specs.Prelude.{◌≡◌, ◌≢◌, ◌<◌, ◌≤◌, ◌+◌, ◌&&◌, ℕ, Bool, nat_le, List, [], ◌++◌, length, Option, Some, None}
use Rattle.boot_data.specs.Hearing.{Line}
use Rattle.boot_data.specs.declared.plan.Step.{Step}
use Rattle.turn_dispatch.specs.declared.dispatch.Begun.{Begun}
use Rattle.turn_dispatch.specs.declared.dispatch.Idle.{Idle}
use Rattle.turn_dispatch.specs.Dispatches.{Began, WasIdle, mask_of}
use Rattle.turn_dispatch.specs.Holdings.{Shows}
use Rattle.turn_dispatch.specs.Sendings.{Sent}
use Rattle.turn_dispatch.specs.Tallies.{delivery}
use Rattle.turn_dispatch.specs.Tendings.{DidTend, Fires, RaisedAll}
use Rattle.meters.specs.Handles as meters
use Rattle.thread_table.specs.declared.hand.Hand.{Hand}
use Rattle.thread_table.specs.declared.layout.TheConstants.{ELEMENTS}
use Rattle.thread_table.specs.Handles.{view_of, call_of}
use Rattle.processor.specs.declared.outcome.TurnResult.{TurnResult}
use Rattle.processor.specs.declared.outcome.TurnResult.TheVariants as hads
use Rattle.processor.specs.declared.outcome.TurnOutcome.{TurnOutcome}
use Rattle.processor.specs.declared.outcome.TurnOutcome.TheVariants as outcomes
use Rattle.processor.specs.declared.phases.Rescheduled.{Rescheduled}
use Rattle.processor.specs.declared.shared.Shared.{Shared}
use Rattle.processor.specs.declared.station.Parts.{Parts}
use Rattle.processor.specs.Outcomes.{is_done, IsOutcomeOf}
use Rattle.processor.specs.Doings.{heard_by}
use Rattle.processor.specs.Entries.{LogEntry, Tended}
use Rattle.processor.specs.Programs.{program, step_of}
use Rattle.processor.specs.Running.{Stepped, EndsDid, Goes}

-- the lines that a station keeps
abbrev pub heard_lines : Parts → List Line
heard_lines parts = parts.heard.lines

-- whether a tried step is done, and was the last of this many steps
abbrev pub is_last : Bool → ℕ → ℕ → Bool
is_last done number steps = done && nat_le steps (number + 1)

-- all ends of queues and chains are unchanged, and nothing was heard
pub record AreAtRest (old new : Parts) : Type 0 where
  pub queues : new.queues ≡ old.queues
  pub chains : new.chains ≡ old.chains
  pub heard : new.heard ≡ old.heard

-- one of the elements, which wasn't stopped, was taken from the ready ring, and the signals delivered to it were added to
-- its mask
pub record BegunAt (begun : Begun) (old new : Parts) : Type 0 where
  pub is_one : begun.element < ELEMENTS
  pub began : Began (call_of old.hand) begun (view_of old.hand) (view_of new.hand)
  pub shows : Shows (delivery begun.element (mask_of begun.delivered)) old.signals new.signals
  pub rest : AreAtRest old new
  pub meters : new.meters ≡ old.meters

-- The element's step was tried on the processor, with its effect at all ends, and the element moved on. In between the
-- hand was `stepped`. The bytes of a line that was heard are kept
pub record RanStep (shared : Shared) (p element number : ℕ) (sent : Rescheduled) (line : List ℕ) (old new : Parts)
    : Type 0 where
  pub step : Step
  pub is : step_of shared.plan element number ≡ Some step
  pub step_outcome : IsOutcomeOf step sent.tried.step_outcome line
  pub stepped : Hand
  pub ran : Stepped (call_of old.hand) shared.plan p element sent.tried.step_outcome sent.tried.counted
      (view_of old.hand)
      (view_of stepped)
  pub goes : Goes (call_of old.hand) sent.tried.step_outcome
      (is_last (is_done sent.tried.step_outcome) number (length (program shared.plan element)))
      element sent.moved (view_of stepped)
      (view_of new.hand)
  pub ends : EndsDid shared sent.tried.step_outcome line old new
  pub lines : new.heard.lines ≡ old.heard.lines ++ heard_by sent.tried.step_outcome element number line
  pub signals : new.signals ≡ old.signals

-- no element was at hand, and all ends except the hand are unchanged
abbrev pub IdleAt : Idle → Parts → Parts → Type 0
IdleAt idle old new = WasIdle (call_of old.hand) idle (view_of old.hand) (view_of new.hand)
    × AreAtRest old new × (new.meters ≡ old.meters) × (new.signals ≡ old.signals)

-- the result of the turn of an element at hand: it had no step left and was sent to the free elements, or its step was
-- tried with this line
abbrev pub HadTurn : Shared → ℕ → ℕ → ℕ → TurnResult → List ℕ → Parts → Parts → Type 0
HadTurn shared p element number (hads.Retired moved) line old new = (length (program shared.plan element) ≤ number)
    × Sent (call_of old.hand) 1 element moved (view_of old.hand) (view_of new.hand)
    × AreAtRest old new × (new.meters ≡ old.meters) × (new.signals ≡ old.signals) × (line ≡ [])
HadTurn shared p element number (hads.Ran sent) line old new = RanStep shared p element number sent line old new

-- the result of an element's turn, if one was at hand
abbrev pub CameOf : Shared → ℕ → TurnOutcome → List ℕ → Parts → Parts → Type 0
CameOf shared p (outcomes.Idle idle) line old new = IdleAt idle old new × (line ≡ [])
CameOf shared p (outcomes.OfElement begun had) line old new = (mid : Parts) × BegunAt begun old mid
    × HadTurn shared p begun.element begun.number had line mid new

-- processor 0 tended the alarms, and no other did
abbrev pub TendedBy : ℕ → Option Tended → Parts → Parts → Type 0
TendedBy p None old new = (p ≢ 0) × (new ≡ old)
TendedBy p (Some tended) old new = (p ≡ 0)
    × Fires tended.advanced tended.fired (meters.view_of old.meters) (meters.view_of new.meters)
    × DidTend tended.advanced tended.fired (meters.view_of old.meters) (meters.view_of new.meters)
    × RaisedAll (call_of old.hand) tended.fired (view_of old.hand) (view_of new.hand)
    × AreAtRest old new × (new.signals ≡ old.signals)

-- the result of a turn: of the alarms, and then of an element's turn, with the line to be said or the line heard
abbrev pub TurnOf : Shared → ℕ → LogEntry → Parts → Parts → Type 0
TurnOf shared p entry old new =
    (mid : Parts) × TendedBy p entry.tended old mid × CameOf shared p entry.outcome entry.line mid new
