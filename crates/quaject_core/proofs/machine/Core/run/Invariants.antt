use Rattle.quaject_core.proofs.Common.{take, Reaches, state}
use Rattle.quaject_core.proofs.machine.Core.run.Given as goal

-- The events so far were each allowed.
abbrev pub invariant-loop-index : goal.invariant-loop-index
invariant-loop-index l = Reaches (state l.fn.self) (take l.index l.events) (state l.self)
