use Rattle.quaject_core.proofs.Stored.Chains.{no_marks, same_chain}
use Rattle.quaject_core.proofs.chaining.StoredChain.new.Goals as goal

pub returns : goal.returns
returns c = same_chain _ _ _ _ _ _ c.new.ensures (no_marks 64)
