use Rattle.std.proofs.Common.{◌≡◌, false}
use Rattle.proc_chain.specs.Handles.{turn_of, IsEndOf}
use Rattle.queue_tests.proofs.chains.client_tests.move_thrice.Given as goal

abbrev pub invariant-loop-note : goal.invariant-loop-note
invariant-loop-note g l = IsEndOf l.chain l.end × (turn_of l.end ≡ false)
