-- How often an element appears anywhere.
use Rattle.std.specs.Prelude.{ℕ, ◌+◌, ◌==◌, Bool, false, if◌then◌else◌, List, count_by, sum_by, Option, Some, None}
use Rattle.std.specs.List.{slice_get}
use Rattle.event_theory.specs.Queues.{left}
use Rattle.event_theory.specs.Elements.{Elements, Thread}
use Rattle.event_theory.specs.declared.hold.Hold.{Hold}

-- how often an element is in a list, on a processor, or in its stop cell
abbrev pub in_list : ℕ → List ℕ → ℕ
in_list element items = count_by (λ item. item == element) items

abbrev pub is_on : ℕ → Option Hold → Bool
is_on element None = false
is_on element (Some h) = h.element == element

abbrev pub in_cell : Option Thread → ℕ
in_cell None = 0
in_cell (Some thread) = if thread.parked then 1 else 0

-- how often an element appears: on the processors, in what is left of the element queues, in its stop cell and in the
-- held lists of all calls
abbrev pub appearances : ℕ → Elements → ℕ
appearances element s =
    count_by (is_on element) s.processors
    + sum_by (λ q. in_list element (left q)) s.rings
    + in_cell (slice_get s.threads element)
    + count_by (λ h. h.element == element) s.held
