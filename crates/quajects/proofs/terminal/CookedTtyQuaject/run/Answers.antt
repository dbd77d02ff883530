use Rattle.std.proofs.Common.{rules}
use Rattle.quajects.proofs.Making.{cooked_more}
use Rattle.quajects.proofs.terminal.CookedTtyQuaject.run.Goals as goal

pub returns-then-screen-clause-ran : goal.returns-then-screen-clause-ran
returns-then-screen-clause-ran c = search rules

pub returns-then-screen-clause-made : goal.returns-then-screen-clause-made
returns-then-screen-clause-made c = λ first notes made. cooked_more first _ _ _ notes _ (returns-then-screen-clause-ran c) made

pub returns-else-screen-clause-ran : goal.returns-else-screen-clause-ran
returns-else-screen-clause-ran c = search rules

pub returns-else-screen-clause-made : goal.returns-else-screen-clause-made
returns-else-screen-clause-made c = λ first notes made. cooked_more first _ _ _ notes _ (returns-else-screen-clause-ran c) made
