use Rattle.proc_chain.specs.Handles.{IsEndOf}
use Rattle.queue_tests.proofs.chains.tests.plays_alone.Given as goal

abbrev pub invariant-loop-at : goal.invariant-loop-at
invariant-loop-at g l = IsEndOf l.chain l.end
