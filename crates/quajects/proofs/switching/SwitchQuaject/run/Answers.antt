use Rattle.std.proofs.Common.{rules}
use Rattle.quajects.proofs.Making.{switch_more}
use Rattle.quajects.proofs.switching.SwitchQuaject.run.Goals as goal

pub returns-then-put-clause-ran : goal.returns-then-put-clause-ran
returns-then-put-clause-ran c = search rules

pub returns-then-put-clause-made : goal.returns-then-put-clause-made
returns-then-put-clause-made c = λ first notes made. switch_more first _ _ _ notes _ (returns-then-put-clause-ran c) made

pub returns-else-put-clause-ran : goal.returns-else-put-clause-ran
returns-else-put-clause-ran c = search rules

pub returns-else-put-clause-made : goal.returns-else-put-clause-made
returns-else-put-clause-made c = λ first notes made. switch_more first _ _ _ notes _ (returns-else-put-clause-ran c) made
