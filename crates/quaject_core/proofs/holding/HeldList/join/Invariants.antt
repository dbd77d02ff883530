use Rattle.quaject_core.proofs.Common.{◌≡◌, join_hold}
use Rattle.quaject_core.proofs.Lists.Mapped.{mapped}
use Rattle.quaject_core.proofs.holding.HeldList.join.Given as goal

-- The holds so far are renamed.
abbrev pub invariant-loop-hold : goal.invariant-loop-hold
invariant-loop-hold l = l.hold-items ≡ mapped (join_hold l.call l.other) l.hold-index l.fn.self.holds.items
