use Rattle.meters.proofs.Common.{arith}
use Rattle.meters.proofs.Clients.{adds_to_gauge, gauge_was}
use Rattle.meters.proofs.Ending.{steps_by}
use Rattle.meters.proofs.ends.Meters.tick.Goals as goal

pub returns-clause-effect : goal.returns-clause-effect
returns-clause-effect c = let t = c.add_to_gauge.ensures.ticked in adds_to_gauge _ _ _ _ _ (t.0, t.1.adds)

pub returns-clause-result : goal.returns-clause-result
returns-clause-result c = let t = c.add_to_gauge.ensures.ticked in gauge_was _ _ _ _ _ c.requires.1 c.add_to_gauge.ensures.seat.2 (t.0, t.1.adds)

pub returns-clause-steps : goal.returns-clause-steps
returns-clause-steps c = steps_by 1 _ _ _ c.add_to_gauge.ensures.ticked.1.adds (omega arith)
