use Rattle.thread_table.proofs.Common.{∥∥₁_map}
use Rattle.thread_table.proofs.laws.hands_stand.Goals as goal

pub returns : goal.returns
returns c = λ hand made. ∥∥₁_map hand.stands (λ h. h made)
