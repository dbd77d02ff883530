use Rattle.meters.proofs.Clocks.{clock_found}
use Rattle.meters.proofs.steps.load_clock.Goals as goal

pub returns-clause-clock : goal.returns-clause-clock
returns-clause-clock c = (clock_found _ _ _ c.load.ensures.seat.2 c.load.ensures.found).0

pub returns-clause-bounded : goal.returns-clause-bounded
returns-clause-bounded c = (clock_found _ _ _ c.load.ensures.seat.2 c.load.ensures.found).1
