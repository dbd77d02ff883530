use Rattle.meters.specs.Handles.{IsSameSeat}
use Rattle.turn_tests.proofs.turns.stands.set_all.Given as goal

abbrev pub invariant-loop-alarm : goal.invariant-loop-alarm
invariant-loop-alarm l = IsSameSeat l.fn.seat l.seat
