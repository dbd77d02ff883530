use Rattle.meters.specs.Handles.{IsSeatOf}
use Rattle.element_tests.proofs.timing.scripts.does.Given as goal

abbrev pub invariant-loop-at : goal.invariant-loop-at
invariant-loop-at g l = IsSeatOf l.meters l.seat
