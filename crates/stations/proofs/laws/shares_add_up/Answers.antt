use Rattle.stations.proofs.Summing.{shares_add, shares_swap, shares_parted}
use Rattle.stations.proofs.laws.shares_add_up.Goals as goal

pub returns-clause-shares : goal.returns-clause-shares
returns-clause-shares c = shares_add

pub returns-clause-any_order : goal.returns-clause-any_order
returns-clause-any_order c = shares_swap

pub returns-clause-parted : goal.returns-clause-parted
returns-clause-parted c = shares_parted
