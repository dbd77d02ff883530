-- The state of a core.
use Rattle.event_theory.specs.States.{State}
use Rattle.quaject_core.specs.ShownStates.{stored_state}
use Rattle.quaject_core.specs.declared.machine.Core.{Core}

-- the state of a core
abbrev pub state : Core → State
state core = stored_state core.store
