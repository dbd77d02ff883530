use Rattle.meters.proofs.Clients.{cancels}
use Rattle.meters.proofs.Ending.{cancel_steps}
use Rattle.meters.proofs.ends.Meters.cancel.Goals as goal

pub returns-clause-effect : goal.returns-clause-effect
returns-clause-effect c = let done = c.exchange_cancelled.ensures in (cancels _ _ _ _ _ c.requires.1 done.seat.2 done.hit done.miss).0

pub returns-clause-result : goal.returns-clause-result
returns-clause-result c = let done = c.exchange_cancelled.ensures in (cancels _ _ _ _ _ c.requires.1 done.seat.2 done.hit done.miss).1

pub returns-clause-steps : goal.returns-clause-steps
returns-clause-steps c = let done = c.exchange_cancelled.ensures in cancel_steps _ _ _ _ _ done.hit done.miss
