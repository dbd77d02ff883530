use Rattle.boot_laws.proofs.Queues.Weaving.{queue_agrees}
use Rattle.boot_laws.proofs.queues_agree.Goals as goal

pub returns : goal.returns
returns c = λ plan logs done index others q w e. queue_agrees plan logs done w index others q e
