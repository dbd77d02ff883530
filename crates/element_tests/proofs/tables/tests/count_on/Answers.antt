use Rattle.std.proofs.Common.{arith, ◌≡◌, ◌+◌, true, IfOk, ℕ, ◌<◌, Result}
use Rattle.std.proofs.lemmas.Grind.{common_steps}
use Rattle.thread_table.specs.Answers.{DoneAnswer, ReadPc}
use Rattle.thread_table.specs.Own.{View}
use Rattle.thread_table.specs.Handles.{call_of, view_of}
use Rattle.thread_table.specs.Rules.{has}
use Rattle.thread_table.specs.declared.layout.TheConstants.{ELEMENTS}
use Rattle.thread_table.specs.declared.programs.Spent.{Spent}
use Rattle.element_tests.proofs.tables.tests.count_on.Goals as goal

counted : (call element found : ℕ) (v u w : View) (r : Result ℕ Spent) → element < ELEMENTS → has v element ≡ true → ReadPc element v found u → DoneAnswer call u element r w → IfOk r (λ number. number ≡ found + 1)
counted call element found v u w r low mine p d = grind (arith, common_steps)

pub returns-clause-counted : goal.returns-clause-counted
returns-clause-counted c = counted _ _ _ _ _ _ _ (omega arith) c.requires.mine c.pc-count.ensures.trace c.step_done.ensures.trace
