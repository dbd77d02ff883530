use Rattle.meters.specs.Handles.{IsSeatOf}
use Rattle.element_tests.proofs.timing.thread_tests.work.Given as goal

abbrev pub invariant-loop-count : goal.invariant-loop-count
invariant-loop-count l = IsSeatOf l.meters l.seat
