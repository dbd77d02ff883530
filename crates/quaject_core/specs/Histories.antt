-- The events that led to a state.
use Rattle.std.specs.Prelude.{ℕ, List}
use Rattle.event_theory.specs.Accounts.{IsAccounted}
use Rattle.event_theory.specs.Schedules.{Reaches}
use Rattle.event_theory.specs.States.{State, first_state}
use Rattle.event_theory.specs.declared.event.Event.{Event}

-- allowed events lead from a first state to this state, and the state agrees with the effect of each event
pub record HasHistory (s : State) : Type 0 where
  pub elements : ℕ
  pub events : List Event
  pub reached : Reaches (first_state elements) events s
  pub accounted : IsAccounted (first_state elements) events s
