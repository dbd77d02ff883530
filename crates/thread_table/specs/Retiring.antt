-- The elements that were put after the free elements, and the takings of free elements.
use Rattle.std.specs.Prelude.{◌≡◌, ◌==◌, ℕ, Bool, false, List, [], ◌∷◌, ◌++◌, map, drop, flat_map, slice_index_or}
use Rattle.std.specs.List.{list_any}
use Rattle.event_theory.specs.Runs.{Run}
use Rattle.event_theory.specs.declared.event.Event.{Event}
use Rattle.event_theory.specs.declared.event.Event.TheVariants as events
use Rattle.event_theory.specs.declared.names.QueueName.TheVariants as names
use Rattle.thread_table.specs.declared.layout.TheConstants.{ELEMENTS}
use Rattle.thread_table.specs.Layout.{free_ring}
use Rattle.thread_table.specs.declared.rule.MadeEvent.{MadeEvent}
use Rattle.thread_table.specs.Schedules.{elements_after, ring_at}

abbrev pub items_of : Run → List ℕ
items_of run = run.items

-- the elements that an event claims a place for in the free elements' queue
abbrev pub retired_by : Event → List (List ℕ)
retired_by (events.Claim call names.Free items) = items ∷ []
retired_by event = []

abbrev pub retired_in : List Event → List (List ℕ)
retired_in [] = []
retired_in (event ∷ events) = retired_by event ++ retired_in events

-- the runs of the free elements' queue, after the 64 with which it began, are the claims of this queue, in their order
abbrev pub AreRetired : List Event → Type 0
AreRetired events = drop ELEMENTS (map items_of (ring_at (elements_after events) free_ring).history) ≡ retired_in events

-- how many free elements an event takes, if it is a taking of free elements
abbrev pub taking_by : Event → List ℕ
taking_by (events.Take call names.Free count) = count ∷ []
taking_by event = []

-- the takings of free elements in a hand's list
abbrev pub free_takings : List MadeEvent → List ℕ
free_takings made = flat_map (λ (m : MadeEvent). taking_by m.event) made

-- the event puts this element after the free elements, which are put there one by one
abbrev pub frees : ℕ → Event → Bool
frees element (events.Claim call names.Free items) = slice_index_or items 0 0 == element
frees element event = false

-- an event of the list put this element after the free elements
abbrev pub was_freed : ℕ → List MadeEvent → Bool
was_freed element made = list_any (λ (m : MadeEvent). frees element m.event) made
