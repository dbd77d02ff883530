use Rattle.boot_laws.proofs.Boots.Saying.{all_said_to}
use Rattle.boot_laws.proofs.all_are_said.Goals as goal

pub returns : goal.returns
returns c = λ plan closed logs heard r index report ended never. all_said_to plan closed logs heard r report ended index never
