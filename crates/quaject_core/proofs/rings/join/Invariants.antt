use Rattle.quaject_core.proofs.Common.{◌≡◌, map, join_queue, queue}
use Rattle.quaject_core.proofs.Lists.Mapped.{mapped}
use Rattle.quaject_core.proofs.rings.join.Given as goal

-- The rings so far are joined.
abbrev pub invariant-loop-ring : goal.invariant-loop-ring
invariant-loop-ring l = map queue l.ring-items ≡ mapped (join_queue l.call l.other) l.ring-index (map queue l.fn.rings.items)
