use Rattle.std.proofs.Common.{◌≡◌, false}
use Rattle.proc_chain.specs.Handles.{turn_of, IsEndOf}
use Rattle.queue_tests.proofs.chains.thread_tests.work.Given as goal

abbrev pub invariant-loop-number : goal.invariant-loop-number
invariant-loop-number g l = IsEndOf l.chain l.end × (turn_of l.end ≡ false)
