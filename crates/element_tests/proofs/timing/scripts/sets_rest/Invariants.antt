use Rattle.meters.specs.Handles.{IsSeatOf}
use Rattle.element_tests.proofs.timing.scripts.sets_rest.Given as goal

abbrev pub invariant-loop-slot : goal.invariant-loop-slot
invariant-loop-slot l = IsSeatOf l.meters l.seat
