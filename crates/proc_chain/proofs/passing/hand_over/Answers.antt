use Rattle.proc_chain.proofs.Common.{rules}
use Rattle.proc_chain.proofs.Handing.{hands_over}
use Rattle.proc_chain.proofs.passing.hand_over.Goals as goal

pub split_seat-requires : goal.split_seat-requires
split_seat-requires g c = (search rules, search rules, hands_over _ _ _ _ _)
