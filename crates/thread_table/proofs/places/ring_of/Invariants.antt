use Rattle.thread_table.proofs.Common.{◌<◌, ℕ, slots_items, IsIn}
use Rattle.thread_table.proofs.places.ring_of.Given as goal

abbrev pub invariant-loop-ring : goal.invariant-loop-ring
invariant-loop-ring l = (ring : ℕ) → ring < l.ring → IsIn l.element (slots_items l.closed.words) ring → ⊥
