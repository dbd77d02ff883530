use Rattle.thread_table.proofs.Common.{sym, ap, ap₂, ◌∙◌, length, either}
use Rattle.thread_table.proofs.Lists.BitSets.{length-marks, marks-or}
use Rattle.thread_table.proofs.sets.BitSet.union.Goals as goal

pub returns-clause-union : goal.returns-clause-union
returns-clause-union g c = marks-or g.row.N c.self.inside.bits c.other.inside.bits ∙ ap₂ either c.self.view_is c.other.view_is

pub returns-clause-long : goal.returns-clause-long
returns-clause-long g c = (sym (ap length c.self.view_is) ∙ length-marks g.row.N c.self.inside.bits, sym (ap length c.other.view_is) ∙ length-marks g.row.N c.other.inside.bits)
