use Rattle.bindings.proofs.Calls.{◌≡◌, ◌≢◌, ◌<◌, ℕ, true, Some}
use Rattle.bindings.specs.HandHeld.{view_of, serves, running}
use Rattle.bindings.proofs.hand.held.HeldHand.may_step.Given as goal

abbrev pub invariant-loop-p : goal.invariant-loop-p
invariant-loop-p l = (q : ℕ) → q < l.p → serves (view_of l.self.hand) q ≡ true → running (view_of l.self.hand) q ≢ Some l.element
