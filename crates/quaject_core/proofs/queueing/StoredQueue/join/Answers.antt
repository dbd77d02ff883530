use Rattle.quaject_core.proofs.Stored.Joins.{joined_by, joined_by_lawful, joined_by_laid}
use Rattle.quaject_core.proofs.queueing.StoredQueue.join.Goals as goal

pub invariant_of-self : goal.invariant_of-self
invariant_of-self c = record {
  laid_out = joined_by_laid c.args.self.now c.args.call c.args.other c.rename.new.runs.items c.rename.ensures;
  lawful = joined_by_lawful c.args.self.now c.args.call c.args.other c.rename.new.runs.items c.rename.ensures;
}

pub returns : goal.returns
returns c = joined_by c.args.self.now c.args.call c.args.other c.rename.new.runs.items c.rename.ensures
