-- The state that the machine stores.
use Rattle.std.specs.Prelude.{map, Result}
use Rattle.event_theory.specs.Results.{Changes}
use Rattle.event_theory.specs.States.{State}
use Rattle.quaject_core.specs.Shown.{queue}
use Rattle.quaject_core.specs.ShownChains.{chain}
use Rattle.quaject_core.specs.ShownElements.{elements}
use Rattle.quaject_core.specs.ShownMeters.{meters}
use Rattle.event_theory.specs.declared.refusal.Refusal.{Refusal}
use Rattle.quaject_core.specs.declared.store.Store.{Store}

-- the state that a store represents
abbrev pub stored_state : Store → State
stored_state store = record {
  queues = map queue store.queues.items;
  chains = map chain store.chains.items;
  elements = elements store.elements;
  meters = meters store.meters;
  events = store.events;
}

-- the event was applied to the store, or it was refused and nothing changed
abbrev pub Does : Result (Unit {0}) Refusal → (State → Result State Refusal) → Store → Store → Type 0
Does result event old new = Changes result (event (stored_state old)) (stored_state old) (stored_state new)
