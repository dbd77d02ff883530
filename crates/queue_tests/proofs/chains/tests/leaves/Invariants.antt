use Rattle.proc_chain.specs.Handles.{IsEndOf}
use Rattle.queue_tests.proofs.chains.tests.leaves.Given as goal

abbrev pub invariant-loop-note : goal.invariant-loop-note
invariant-loop-note g l = IsEndOf l.chain l.end
