use Rattle.bindings.proofs.Calls.{◌≡◌, ◌<◌, ℕ, true, None}
use Rattle.thread_table.specs.Answers.{is_in}
use Rattle.bindings.specs.HandHeld.{view_of, running}
use Rattle.bindings.proofs.hand.held.HeldHand.has_none_on.Given as goal

abbrev pub invariant-loop-p : goal.invariant-loop-p
invariant-loop-p l = (q : ℕ) → q < l.p → is_in l.mask q ≡ true → running (view_of l.self.hand) q ≡ None
