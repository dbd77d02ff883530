use Rattle.std.proofs.Common.{◌≡◌, drop}
use Rattle.event_theory.specs.Places.{holder}
use Rattle.quaject_core.proofs.placing.holder.Given as goal

-- No hold so far is the element's.
abbrev pub invariant-loop-hold : goal.invariant-loop-hold
invariant-loop-hold l = holder l.element l.fn.held ≡ holder l.element (drop l.hold-index l.fn.held)
