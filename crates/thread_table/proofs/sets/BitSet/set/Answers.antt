use Rattle.thread_table.proofs.Common.{◌∙◌, ap₂, sym, set, List, Bool}
use Rattle.thread_table.proofs.Lists.BitSets.{marks_with, marks_without}
use Rattle.thread_table.proofs.sets.BitSet.set.Goals as goal

pub returns-then-is : goal.returns-then-is
returns-then-is g c = marks_with g.row.N c.self.inside.bits c.args.number c.self.invariant c.requires ∙ ap₂ (λ (xs : List Bool) (b : Bool). set xs c.args.number b) c.self.view_is (sym c.if-is.true)

pub returns-else-is : goal.returns-else-is
returns-else-is g c = marks_without g.row.N c.self.inside.bits c.args.number c.self.invariant c.requires ∙ ap₂ (λ (xs : List Bool) (b : Bool). set xs c.args.number b) c.self.view_is (sym c.if-is.false)
