use Rattle.bindings.proofs.Calls.{◌≡◌, ◌<◌, ℕ, true}
use Rattle.thread_table.specs.Answers.{is_in}
use Rattle.bindings.specs.HandHeld.{view_of, serves}
use Rattle.bindings.proofs.hand.held.HeldHand.serves_all.Given as goal

abbrev pub invariant-loop-p : goal.invariant-loop-p
invariant-loop-p l = (q : ℕ) → q < l.p → is_in l.mask q ≡ true → serves (view_of l.self.hand) q ≡ true
