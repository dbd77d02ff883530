use Rattle.meters.proofs.Finding.{word_found}
use Rattle.meters.proofs.steps.load_slot.Goals as goal

pub returns-clause-found : goal.returns-clause-found
returns-clause-found c = word_found _ _ c.args.slot _ _ c.requires.seat.1 c.load.ensures.seat.2 c.load.ensures.found c.from_bits.ensures
