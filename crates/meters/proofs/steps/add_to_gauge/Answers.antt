use Rattle.meters.proofs.Common.{rules}
use Rattle.meters.proofs.Stepping.{ticks_gauge}
use Rattle.meters.proofs.steps.add_to_gauge.Goals as goal

pub fetch_add-requires : goal.fetch_add-requires
fetch_add-requires c = (search rules, search rules, ticks_gauge _ _ _ _ c.requires.seat.0.2 _ _ c.requires.seat.1)
