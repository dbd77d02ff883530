-- The place of an element: on a processor, in an element queue, held, or in its stop cell.
use Rattle.std.specs.Prelude.{ℕ, zero, suc, ◌==◌, if◌then◌else◌, List, [], ◌∷◌, position, Option, Some, None}
use Rattle.std.specs.List.{list_any}
use Rattle.event_theory.specs.Queues.{left}
use Rattle.event_theory.specs.Elements.{Elements}
use Rattle.event_theory.specs.Appearances.{is_on}
use Rattle.event_theory.specs.declared.hold.Hold.{Hold}
use Rattle.event_theory.specs.declared.status.Place.{Place}
use Rattle.event_theory.specs.declared.status.Place.TheVariants as places

-- the place of the elements in an element queue
abbrev pub ring_place : ℕ → Place
ring_place zero = places.Ready
ring_place (suc zero) = places.Free
ring_place (suc (suc wait)) = places.Wait wait

-- the call that holds an element, if any
abbrev pub holder : ℕ → List Hold → Option ℕ
holder element [] = None
holder element (h ∷ held) = if h.element == element then Some h.call else holder element held

abbrev pub held_place : Option ℕ → Place
held_place None = places.Stopped
held_place (Some call) = places.Held call

abbrev pub ring_or_held : Option ℕ → Option ℕ → Place
ring_or_held (Some ring) held = ring_place ring
ring_or_held None held = held_place held

abbrev pub place_by : Option ℕ → Option ℕ → Option ℕ → Place
place_by (Some processor) ring held = places.Processor processor
place_by None ring held = ring_or_held ring held

-- the place of an element: in a lawful state it is in exactly one, so the order of the looks doesn't matter
abbrev pub place_of : ℕ → Elements → Place
place_of element s = place_by
    (position (is_on element) s.processors)
    (position (λ q. list_any (λ item. item == element) (left q)) s.rings)
    (holder element s.held)
