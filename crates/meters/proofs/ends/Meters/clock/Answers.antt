use Rattle.meters.proofs.Common.{arith}
use Rattle.meters.proofs.Clients.{clock_is, loads_alone}
use Rattle.meters.proofs.Ending.{steps_by}
use Rattle.meters.proofs.ends.Meters.clock.Goals as goal

pub returns-clause-effect : goal.returns-clause-effect
returns-clause-effect c = let l = c.load_clock.ensures.found in loads_alone _ _ _ _ (l.at, l.made.adds)

pub returns-clause-result : goal.returns-clause-result
returns-clause-result c = let l = c.load_clock.ensures.found in clock_is _ _ _ c.load_clock.ensures.seat.2 (l.at, l.made.adds)

pub returns-clause-steps : goal.returns-clause-steps
returns-clause-steps c = steps_by 1 _ _ _ c.load_clock.ensures.found.made.adds (omega arith)
