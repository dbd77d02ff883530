use Rattle.thread_table.proofs.Common.{ap₂, ◌∙◌, parted}
use Rattle.thread_table.proofs.Lists.BitSets.{marks-and_not}
use Rattle.thread_table.proofs.sets.BitSet.difference.Goals as goal

pub returns : goal.returns
returns g c = marks-and_not g.row.N c.self.inside.bits c.other.inside.bits c.self.invariant c.other.ranges.0.1 ∙ ap₂ parted c.self.view_is c.other.view_is
