use Rattle.processor.proofs.Rooms.{few}
use Rattle.processor.proofs.laws.hears_are_few.Goals as goal

pub returns : goal.returns
returns c = few
