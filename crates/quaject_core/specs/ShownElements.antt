-- The thread elements that the machine stores.
use Rattle.std.specs.Prelude.{map, Result}
use Rattle.event_theory.specs.Elements.{Elements}
use Rattle.quaject_core.specs.Shown.{queue}
use Rattle.quaject_core.specs.ShownThreads.{thread}
use Rattle.event_theory.specs.Results.{Changes}
use Rattle.event_theory.specs.declared.refusal.Refusal.{Refusal}
use Rattle.quaject_core.specs.declared.elements.StoredElements.{StoredElements}

-- the elements that the stored elements represent
abbrev pub elements : StoredElements → Elements
elements stored = record {
  threads = map thread stored.threads.items;
  rings = map queue stored.rings.items;
  notified = stored.notified;
  processors = stored.processors;
  held = stored.held.holds.items;
}

-- the event was applied to the stored elements, or it was refused and nothing changed
abbrev pub Does :
    Result (Unit {0}) Refusal → (Elements → Result Elements Refusal) → StoredElements → StoredElements → Type 0
Does result event old new = Changes result (event (elements old)) (elements old) (elements new)
