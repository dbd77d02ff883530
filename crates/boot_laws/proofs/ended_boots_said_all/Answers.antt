use Rattle.boot_laws.proofs.Boots.Saying.{all_said_to}
use Rattle.boot_laws.proofs.Queues.Shutting.{left_open}
use Rattle.boot_laws.proofs.ended_boots_said_all.Goals as goal

pub returns : goal.returns
returns c = λ plan closed logs heard r index q report ended at never. all_said_to plan closed logs heard r report ended index
    (report.tables.left_open index q at (left_open plan index logs never report.tables.planned))
